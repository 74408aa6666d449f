-- One record, written and read back, and read and written back.
use Rattle.std.specs.Prelude.{ℕ, ◌+◌, ◌≤◌, ◌≡◌, List, [], ◌∷◌, ◌++◌, length, get_or, drop, take, Ok, Some}
use Rattle.std.proofs.Common.{sym, ap, ◌∙◌, append_assoc, arith, length-append, drop-cons, drop-drop, take-add}
use Rattle.std.proofs.Math.Seq.{get_or-append_seam}
use Rattle.sheet_format.specs.declared.kinds.Entry.{Entry}
use Rattle.sheet_format.specs.declared.kinds.Kind.{Kind}
use Rattle.sheet_format.specs.declared.kinds.Width.{Width}
use Rattle.sheet_format.specs.Kinds.{code_of, widths_of, bytes_in, size_of}
use Rattle.sheet_format.specs.laws.KindLaws.{kind_code, kind_inv, size_small}
use Rattle.big_endian.specs.Numbers.{Bytes}
use Rattle.sheet_format.specs.Numbers.{number, number_at}
use Rattle.sheet_format.specs.laws.NumberLaws.{Fits, number_back, number-there}
use Rattle.sheet_format.specs.RecordEntries.{body, bytes}
use Rattle.sheet_format.specs.laws.EntryLaws.{length-number, length-bytes}
use Rattle.sheet_format.specs.Records.{entry_at, record_at}
use Rattle.sheet_format.specs.laws.RecordLaws.{by-body, byte-there, body-whole, record-inv}

-- ---- what is written is read back

-- fields that fit their bytes
pub record FitsIn (e : Entry) : Type 0 where
  pub a : Fits (widths_of e.kind).a e.a
  pub b : Fits (widths_of e.kind).b e.b
  pub c : Fits (widths_of e.kind).c e.c
  pub d : Fits (widths_of e.kind).d e.d

-- a field of s behind p, and where the next one stands
record Back (w : Width) (v : ℕ) (s p rest : List ℕ) (at : ℕ) : Type 0 where
  is : number_at w s at ≡ v
  next : s ≡ (p ++ number w v) ++ rest
  place : at + bytes_in w ≡ length (p ++ number w v)

field_back : (w : Width) (v : ℕ) → Fits w v → (s p rest : List ℕ) (at : ℕ) → s ≡ p ++ (number w v ++ rest) → at ≡ length p → Back w v s p rest at
field_back w v f s p rest at q l =
    record {
      is = ap (λ x. number_at w x at) q ∙ number_back w v f p rest at l;
      next = q ∙ sym (append_assoc p (number w v) rest);
      place = omega (arith, length-append p (number w v), length-number w v);
    }

same-entry : (e : Entry) (a b c d : ℕ) → a ≡ e.a → b ≡ e.b → c ≡ e.c → d ≡ e.d → record { kind = e.kind; a = a; b = b; c = c; d = d } ≡ e
same-entry e a b c d i j k l = rw (i, j, k, l)

body_back : (e : Entry) → FitsIn e → (s p rest : List ℕ) (at : ℕ) → s ≡ p ++ (body (widths_of e.kind) e ++ rest) → at ≡ length p → entry_at e.kind s at ≡ e
body_back e f s p rest at q l =
    let w = widths_of e.kind in
    let d = number w.d e.d in
    let c = number w.c e.c ++ d in
    let b = number w.b e.b ++ c in
    let p-b = p ++ number w.a e.a in
    let p-c = p-b ++ number w.b e.b in
    let p-d = p-c ++ number w.c e.c in
    let at_b = at + bytes_in w.a in
    let at_c = at_b + bytes_in w.b in
    let at-d = at_c + bytes_in w.c in
    let x = field_back w.a e.a f.a s p (b ++ rest) at (q ∙ ap (λ z. p ++ z) (append_assoc (number w.a e.a) b rest)) l in
    let y = field_back w.b e.b f.b s p-b (c ++ rest) at_b (x.next ∙ ap (λ z. p-b ++ z) (append_assoc (number w.b e.b) c rest)) x.place in
    let z = field_back w.c e.c f.c s p-c (d ++ rest) at_c (y.next ∙ ap (λ z. p-c ++ z) (append_assoc (number w.c e.c) d rest)) y.place in
    let u = field_back w.d e.d f.d s p-d rest at-d z.next z.place in
    same-entry e (number_at w.a s at) (number_at w.b s at_b) (number_at w.c s at_c) (number_at w.d s at-d) x.is y.is z.is u.is

-- a record that stands behind p is read back
pub trip : (e : Entry) → FitsIn e → (p rest : List ℕ) → record_at (p ++ (bytes e ++ rest)) (length p) ≡ Ok (e, (length p + size_of e.kind))
trip e f p rest =
    let s = p ++ (bytes e ++ rest) in
    let k = e.kind in
    let in_Body = body (widths_of k) e ++ rest in
    let l : length s ≡ length p + (size_of k + length rest) = length-append p (bytes e ++ rest) ∙ ap (λ n. length p + n)
    (length-append (bytes e) rest ∙ ap (λ n. n + length rest) (length-bytes e)) in
    let fields : entry_at k s (length p + 1) ≡ e =
    body_back e f s (p ++ (code_of k ∷ [])) rest (length p + 1) (sym (append_assoc p (code_of k ∷ []) in_Body)) (sym (length-append p (code_of k ∷ []))) in
    sym (by-body s (length p) (code_of k) k (Some e)
    (byte-there s (length p) (omega (arith, size_small k)) ∙ ap Some (get_or-append_seam p (code_of k) in_Body 0))
    (kind_code k)
    (body-whole s (length p) k (omega arith) ∙ ap Some fields))

-- ---- what is read is written back

module _ (s : List ℕ) (b : Bytes s) where
  piece : (at m n : ℕ) → take (m + n) (drop at s) ≡ take m (drop at s) ++ take n (drop (at + m) s)
  piece at m n = take-add m n (drop at s) ∙ ap (λ l. take m (drop at s) ++ take n l) (drop-drop m at s)

  -- a field, and what stands behind it
  field-there : (w : Width) (at n : ℕ) (rest : List ℕ) → at + (bytes_in w + n) ≤ length s → take n (drop (at + bytes_in w) s) ≡ rest
      → take (bytes_in w + n) (drop at s) ≡ number w (number_at w s at) ++ rest
  field-there w at n rest h q =
      piece at (bytes_in w) n ∙ ap (λ l. l ++ take n (drop (at + bytes_in w) s)) (number-there s b w at (omega arith))
      ∙ ap (λ l. number w (number_at w s at) ++ l) q

  body-there : (k : Kind) (at : ℕ) → at + size_of k ≤ length s → take (size_of k) (drop at s) ≡ get_or s at 0 ∷ body (widths_of k) (entry_at k s (at + 1))
  body-there k at h =
      let w = widths_of k in
      let at_b = at + 1 + bytes_in w.a in
      let at_c = at_b + bytes_in w.b in
      let at-d = at_c + bytes_in w.c in
      let e = entry_at k s (at + 1) in
      let last = number w.d e.d in
      let third = number w.c e.c ++ last in
      let second = number w.b e.b ++ third in
      let d = number-there s b w.d at-d (omega arith) in
      let c = field-there w.c at_c (bytes_in w.d) last (omega arith) d in
      let y = field-there w.b at_b (bytes_in w.c + bytes_in w.d) third (omega arith) c in
      let a = field-there w.a (at + 1) (bytes_in w.b + (bytes_in w.c + bytes_in w.d)) second (omega arith) y in
      piece at 1 (bytes_in w.a + (bytes_in w.b + (bytes_in w.c + bytes_in w.d)))
      ∙ ap (λ l. take 1 (drop at s) ++ l) a
      ∙ ap (λ l. take 1 l ++ body w (entry_at k s (at + 1))) (drop-cons s at 0 (omega arith))

  -- a record that was read stands in the bytes as it is written
  pub back : (at : ℕ) (e : Entry) (n : ℕ) → record_at s at ≡ Ok (e, n) → take (size_of e.kind) (drop at s) ≡ bytes e
  back at e n q =
      let t = record-inv s at e n q in
      let k = e.kind in
      body-there k at (omega (arith, t.next, t.within))
      ∙ ap (λ x. x ∷ body (widths_of k) (entry_at k s (at + 1))) (kind_inv (get_or s at 0) k t.named)
      ∙ ap (λ x. code_of k ∷ body (widths_of k) x) (sym t.is)
