-- Laws of one record: which answer is given when.
use Rattle.std.specs.Prelude.{ℕ, ◌+◌, ◌≤◌, ◌<◌, ◌≡◌, refl, List, true, length, get_or, Some, None, Option, Ok, Err}
use Rattle.std.proofs.Common.{sym, ◌∙◌, arith, le-leb, lt-ltb, le-ltb}
use Rattle.std.proofs.Math.Path.{ap}
use Rattle.std.proofs.Math.Decide.{dec_lt, dec_le}
use Rattle.std.proofs.lemmas.Bool.{lt-leb}
use Rattle.sheet_types.specs.declared.refusals.Refusal.{Refusal}
use Rattle.rounding.specs.laws.Results.{ok_parts}
use Rattle.sheet_format.specs.declared.kinds.Kind.{Kind}
use Rattle.sheet_format.specs.declared.kinds.Width.{Width}
use Rattle.sheet_format.specs.declared.kinds.Width.TheVariants.{Absent, Two, Four}
use Rattle.sheet_format.specs.declared.kinds.Entry.{Entry}
use Rattle.sheet_format.specs.Kinds.{kind_for, widths_of, size_of, unused, plain}
use Rattle.sheet_format.specs.laws.KindLaws.{size_small}
use Rattle.sheet_format.specs.Numbers.{number_at}
use Rattle.sheet_format.specs.Records.{byte_at, entry_at, bodyAt, of_body, of_kind, of_byte, record_at}

module _ (s : List ℕ) (at : ℕ) where
  pub byte-there : at < length s → byte_at s at ≡ Some (get_or s at 0)
  unfolding byte_at
  byte-there h = rw (lt-ltb at (length s) h)

  pub byte_past : length s ≤ at → byte_at s at ≡ None
  unfolding byte_at
  byte_past h = rw (le-ltb at (length s) h)

  pub byte-inv : (x : ℕ) → byte_at s at ≡ Some x → (at < length s) × (x ≡ get_or s at 0)
  byte-inv x e =
      elim (dec_lt at (length s)) [
        | yes l ↦ let t = byte-there l in (l, cc)
        | no h ↦ let t = byte_past (omega arith) in let z : ◌≡◌ {A = ℕ} 0 1 = cc in absurd (omega arith)
      ]

  pub body-cut : (k : Kind) → length s < at + size_of k → bodyAt k s at ≡ None
  unfolding bodyAt
  body-cut k l = rw (lt-leb (at + size_of k) (length s) l)

  pub body-whole : (k : Kind) → at + size_of k ≤ length s → bodyAt k s at ≡ Some (entry_at k s (at + 1))
  unfolding bodyAt
  body-whole k l = rw (le-leb (at + size_of k) (length s) l)

  pub body-inv : (k : Kind) (e : Entry) → bodyAt k s at ≡ Some e → (at + size_of k ≤ length s) × (e ≡ entry_at k s (at + 1))
  body-inv k e q =
      elim (dec_le (at + size_of k) (length s)) [
        | yes l ↦ let t = body-whole k l in (l, cc)
        | no l ↦ let t = body-cut k (omega arith) in let z : ◌≡◌ {A = ℕ} 0 1 = cc in absurd (omega arith)
      ]

  -- a record by what its byte, its kind and its body are
  pub by_byte : (b : Option ℕ) → byte_at s at ≡ b → of_byte s at b ≡ record_at s at
  unfolding record_at
  by_byte b e = ap (of_byte s at) (sym e)

  pub by_kind : (x : ℕ) (k : Option Kind) → byte_at s at ≡ Some x → kind_for x ≡ k → of_kind s at k ≡ record_at s at
  by_kind x k e f = ap (of_kind s at) (sym f) ∙ by_byte (Some x) e

  pub by-body : (x : ℕ) (k : Kind) (b : Option Entry) → byte_at s at ≡ Some x → kind_for x ≡ Some k → bodyAt k s at ≡ b → of_body k at b ≡ record_at s at
  by-body x k b e f g = ap (of_body k at) (sym g) ∙ by_kind x (Some k) e f

  -- what a record that was read says about the bytes
  pub record RecordThere (e : Entry) (n : ℕ) : Type 0 where
    pub named : kind_for (get_or s at 0) ≡ Some e.kind
    pub is : e ≡ entry_at e.kind s (at + 1)
    pub next : n ≡ at + size_of e.kind
    pub within : n ≤ length s

  pub record-inv : (e : Entry) (n : ℕ) → record_at s at ≡ Ok (e, n) → RecordThere e n
  record-inv e n q =
      elim (dec_lt at (length s)) [
        | yes l ↦ with-kind (kind_for (get_or s at 0)) refl l
        | no h ↦ never _ (by_byte None (byte_past (omega arith)))
      ]
    where
      never : (r : Refusal) → Err r ≡ record_at s at → RecordThere e n
      never r t = let z : ◌≡◌ {A = ℕ} 0 1 = cc in absurd (omega arith)

      whole : (k : Kind) → kind_for (get_or s at 0) ≡ Some k → at + size_of k ≤ length s → Ok (entry_at k s (at + 1), at + size_of k) ≡ record_at s at →
          RecordThere e n
      whole k f l t =
          let u = ok_parts (sym (t ∙ q)) in
          let i : entry_at k s (at + 1) ≡ e = sym u.0 in
          let j : k ≡ e.kind = ap (λ x. x.kind) i in
          let m : n ≡ at + size_of k = u.1 in
          record {
            named = f ∙ ap Some j;
            is = sym i ∙ ap (λ x. entry_at x s (at + 1)) j;
            next = m ∙ ap (λ x. at + size_of x) j;
            within = omega arith;
          }

      with-kind : (k : Option Kind) → kind_for (get_or s at 0) ≡ k → at < length s → RecordThere e n
      with-kind None f l = never _ (by_kind _ None (byte-there l) f)
      with-kind (Some k) f l =
          elim (dec_le (at + size_of k) (length s)) [
            | no h ↦ never _ (by-body _ k None (byte-there l) f (body-cut k (omega arith)))
            | yes h ↦ whole k f h (by-body _ k _ (byte-there l) f (body-whole k h))
          ]

  pub record-bounds : (e : Entry) (n : ℕ) → record_at s at ≡ Ok (e, n) → (at < n) × (n ≤ length s)
  record-bounds e n q = let t = record-inv e n q in (omega (arith, size_small e.kind, t.next), t.within)

read-unused : (w : Width) (s : List ℕ) (at : ℕ) → unused w (number_at w s at) ≡ true
read-unused Absent s at = refl
read-unused Two s at = refl
read-unused Four s at = refl

-- what a kind does not use is read as 0
pub read_plain : (k : Kind) (s : List ℕ) (at : ℕ) → plain (entry_at k s at) ≡ true
unfolding plain
read_plain k s at =
    let w = widths_of k in
    let e = entry_at k s at in
    rw (read-unused w.a s at, read-unused w.b s _, read-unused w.c s _, read-unused w.d s _)
