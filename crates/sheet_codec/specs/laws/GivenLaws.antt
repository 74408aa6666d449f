-- Laws of a sheet along records that are given one after the other: how it goes on, by what the next one gives.
use Rattle.std.specs.Prelude.{ℕ, zero, suc, ◌+◌, ◌-◌, ◌<◌, ◌≡◌, refl, List, [], ◌∷◌, Bool, true, false, Result, Err, Ok}
use Rattle.std.proofs.Common.{sym, ap, ◌∙◌, arith}
use Rattle.sheet_types.specs.declared.refusals.Refusal.{Refusal}
use Rattle.sheet_format.specs.declared.kinds.Entry.{Entry}
use Rattle.sheet_format.specs.declared.kinds.Progress.{Progress}
use Rattle.sheet_types.specs.Refusals.{refusal}
use Rattle.sheet_rules.specs.declared.rules.OrderRule.{OrderRule}
use Rattle.sheet_rules.specs.declared.rules.OrderRule.TheVariants as O
use Rattle.sheet_rules.specs.declared.rules.FieldRule.{FieldRule}
use Rattle.sheet_rules.specs.declared.rules.FieldRule.TheVariants as F
use Rattle.sheet_format.specs.Kinds.{is_end}
use Rattle.sheet_rules.specs.Rules.{inOrder, fields_hold, after_of, order_of, fields_of}
use Rattle.sheet_rules.specs.laws.RuleLaws.{order-kept-inv, fields-kept-inv}
use Rattle.rounding.specs.laws.Tests.{distinct}
use Rattle.sheet_codec.specs.Sheets.{Sheet, sheet, refused, more, onward, sheet_from, judged}
use Rattle.sheet_codec.specs.laws.Passes.{extent}

module _ (given : ℕ → ℕ → Result (Entry × ℕ) Refusal) (fuel : ℕ) (p : Progress) (i at : ℕ) where
  pub by-judged : (r : Result (Entry × ℕ) Refusal) → judged p at (given i at) ≡ r → sheet_from given (suc fuel) p i at ≡ onward r
      (λ e next. sheet_from given fuel (after_of p e) (i + 1) next)
  unfolding sheet_from
  by-judged r q = rw q

  pub from-refused : (r : Refusal) → given i at ≡ Err r → sheet_from given (suc fuel) p i at ≡ refused r
  from-refused r q = by-judged (Err r) (ap (judged p at) q)

  module _ (e : Entry) (n : ℕ) (got : given i at ≡ Ok (e, n)) where
    module _ (t : order_of p e ≡ O.Kept) where
      pub from-unsound : fields_of p e ≡ F.Broken → sheet_from given (suc fuel) p i at ≡ refused (refusal 7 at)
      from-unsound u = by-judged (Err (refusal 7 at)) (ap (judged p at) got ∙ rw (t, u))

      module _ (u : fields_of p e ≡ F.Kept) where
        pub from_end : is_end e.kind ≡ true → sheet_from given (suc fuel) p i at ≡ sheet (e ∷ []) n
        from_end b = by-judged (Ok (e, n)) (ap (judged p at) got ∙ rw (t, u)) ∙ rw b

        pub from_more : is_end e.kind ≡ false
            → sheet_from given (suc fuel) p i at ≡ more e (sheet_from given fuel (after_of p e) (i + 1) n)
        from_more b = by-judged (Ok (e, n)) (ap (judged p at) got ∙ rw (t, u)) ∙ rw b

-- ---- what the first record says about a sheet

pub record Went (given : ℕ → ℕ → Result (Entry × ℕ) Refusal) (fuel : ℕ) (p : Progress) (i at : ℕ) (es : List Entry) (len : ℕ) : Type 0 where
  pub e : Entry
  pub n : ℕ
  pub tail : List Entry
  pub got : given i at ≡ Ok (e, n)
  pub order : inOrder p e ≡ true
  pub fields : fields_hold p e ≡ true
  pub all : es ≡ e ∷ tail
  pub last : is_end e.kind ≡ true → (tail ≡ []) × (len ≡ n)
  pub goes : is_end e.kind ≡ false → sheet_from given fuel (after_of p e) (i + 1) n ≡ sheet tail len

module _ (given : ℕ → ℕ → Result (Entry × ℕ) Refusal) (fuel : ℕ) (p : Progress) (i at : ℕ) (es : List Entry) (len : ℕ) (w : sheet_from given (suc fuel) p i at ≡ sheet es len) where
  never : (r : Refusal) → sheet_from given (suc fuel) p i at ≡ refused r → Went given fuel p i at es len
  never r q = let t : refused r ≡ sheet es len = sym q ∙ w in let z : ◌≡◌ {A = ℕ} 0 1 = cc in absurd (omega arith)

  module _ (e : Entry) (n : ℕ) (q : given i at ≡ Ok (e, n)) where
    module _ (t : order_of p e ≡ O.Kept) (u : fields_of p e ≡ F.Kept) where
      goes_on : (v : Sheet) → sheet_from given fuel (after_of p e) (i + 1) n ≡ v → is_end e.kind ≡ false
          → more e v ≡ sheet es len → Went given fuel p i at es len
      goes_on (refused r) f b m = let z : ◌≡◌ {A = ℕ} 0 1 = cc in absurd (omega arith)
      goes_on (sheet ds k) f b m =
          let l : k ≡ len = cc in
          record {
            e = e;
            n = n;
            tail = ds;
            got = q;
            order = order-kept-inv p e t;
            fields = fields-kept-inv p e u;
            all = cc;
            last = λ g. absurd (distinct (sym g ∙ b));
            goes = λ _. f ∙ ap (sheet ds) l;
          }

      which : (b : Bool) → is_end e.kind ≡ b → Went given fuel p i at es len
      which true b =
          let m : sheet (e ∷ []) n ≡ sheet es len = sym (from_end given fuel p i at e n q t u b) ∙ w in
          record {
            e = e;
            n = n;
            tail = [];
            got = q;
            order = order-kept-inv p e t;
            fields = fields-kept-inv p e u;
            all = cc;
            last = λ _. (refl, cc);
            goes = λ f. absurd (distinct (sym b ∙ f));
          }
      which false b =
          goes_on (sheet_from given fuel (after_of p e) (i + 1) n) refl b
          (sym (from_more given fuel p i at e n q t u b) ∙ w)

    by-fields : order_of p e ≡ O.Kept → (f : FieldRule) → fields_of p e ≡ f → Went given fuel p i at es len
    by-fields t F.Broken u = never (refusal 7 at) (from-unsound given fuel p i at e n q t u)
    by-fields t F.Kept u = which t u (is_end e.kind) refl

    -- a record that breaks the order is refused, whatever its fields
    unordered : order_of p e ≡ O.Broken → (f : FieldRule) → fields_of p e ≡ f → (r : Result (Entry × ℕ) Refusal) → judged p at (given i at) ≡ r
        → Went given fuel p i at es len
    unordered t f u (Err r) j = never r (by-judged given fuel p i at (Err r) j)
    unordered t F.Kept u (Ok x) j =
        let h : judged p at (Ok (e, n)) ≡ Ok x = sym (ap (judged p at) q) ∙ j in
        let z : ◌≡◌ {A = ℕ} 0 1 = cc in absurd (omega arith)
    unordered t F.Broken u (Ok x) j =
        let h : judged p at (Ok (e, n)) ≡ Ok x = sym (ap (judged p at) q) ∙ j in
        let z : ◌≡◌ {A = ℕ} 0 1 = cc in absurd (omega arith)

    by_order : (o : OrderRule) → order_of p e ≡ o → Went given fuel p i at es len
    by_order O.Broken t = unordered t (fields_of p e) refl (judged p at (given i at)) refl
    by_order O.Kept t = by-fields t (fields_of p e) refl

  by-record : (r : Result (Entry × ℕ) Refusal) → given i at ≡ r → Went given fuel p i at es len
  by-record (Err r) q = never r (from-refused given fuel p i at r q)
  by-record (Ok (e, n)) q = by_order e n q (order_of p e) refl

  pub from-inv : Went given fuel p i at es len
  from-inv = by-record (given i at) refl

pub from_nothing : (given : ℕ → ℕ → Result (Entry × ℕ) Refusal) (p : Progress) (i at : ℕ) (es : List Entry) (len : ℕ) → sheet_from given zero p i at ≡ sheet es len → ⊥
unfolding sheet_from
from_nothing given p i at es len w = let z : ◌≡◌ {A = ℕ} 0 1 = cc in omega arith

-- ---- a turn of a loop that counts, with fuel one more than what is left of `len` records

extent-more : (k : ℕ) (e : Entry) (w : Sheet) → extent k (more e w) ≡ extent (k + 1) w
extent-more k e (sheet es n) = ap (λ m. Ok (m, n)) (omega arith)
extent-more k e (refused r) = refl

pub extent-turn : (given : ℕ → ℕ → Result (Entry × ℕ) Refusal) (len : ℕ) (p : Progress) (i at : ℕ) (e : Entry) (n : ℕ) → given i at ≡ Ok (e, n)
    → order_of p e ≡ O.Kept → fields_of p e ≡ F.Kept → is_end e.kind ≡ false → i < len
    → extent i (sheet_from given (suc (len - i)) p i at)
    ≡ extent (i + 1) (sheet_from given (suc (len - (i + 1))) (after_of p e) (i + 1) n)
extent-turn given len p i at e n got t u b h =
    let f : len - i ≡ suc (len - (i + 1)) = omega arith in
    ap (extent i)
    (from_more given (len - i) p i at e n got t u b ∙ ap (λ k. more e (sheet_from given k (after_of p e) (i + 1) n)) f)
    ∙ extent-more i e (sheet_from given (suc (len - (i + 1))) (after_of p e) (i + 1) n)
