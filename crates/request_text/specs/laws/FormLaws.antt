-- Laws of forms: a word held against its form, character by character; what a word of a form has at its places.
use Rattle.std.specs.Prelude.{◌≡◌, refl, Bool, true, false, ◌&&◌, List, [], ◌∷◌, ℕ, zero, suc, ◌<◌, length, get_or, ◌+◌, ◌≤◌, drop}
use Rattle.std.specs.List.{list_all, zip}
use Rattle.std.proofs.Common.{ap, arith, sym, ◌∙◌}
use Rattle.rounding.specs.laws.Tests.{both}
use Rattle.request_text.specs.Forms.{fits, has_form}
use Rattle.tokens.specs.laws.TextLaws.{from_here, from_end}

-- a word that has a form is as long
pub form_length : (form word : List ℕ) → has_form form word ≡ true → length word ≡ length form
unfolding has_form
form_length [] [] e = refl
form_length [] (x ∷ w) e = let z : ◌≡◌ {A = ℕ} 0 1 = cc in absurd (omega arith)
form_length (p ∷ ps) [] e = let z : ◌≡◌ {A = ℕ} 0 1 = cc in absurd (omega arith)
form_length (p ∷ ps) (x ∷ w) e = let h = form_length ps w (both (fits p x) (has_form ps w) e).1 in omega arith

-- and fits it at each place
pub form_at : (form word : List ℕ) (k : ℕ) → has_form form word ≡ true → k < length form → fits (get_or form k 0) (get_or word k 0) ≡ true
unfolding has_form
form_at [] word k e l = absurd (omega arith)
form_at (p ∷ ps) [] k e l = let z : ◌≡◌ {A = ℕ} 0 1 = cc in absurd (omega arith)
form_at (p ∷ ps) (x ∷ w) zero e l = (both (fits p x) (has_form ps w) e).0
form_at (p ∷ ps) (x ∷ w) (suc k) e l = form_at ps w k (both (fits p x) (has_form ps w) e).1 (omega arith)

module _ (form word : List ℕ) where
  pub form-short : (length word ≡ length form → ⊥) → false ≡ has_form form word
  form-short h = by (has_form form word) refl
    where
      by : (b : Bool) → has_form form word ≡ b → false ≡ b
      by true e = absurd (h (form_length form word e))
      by false e = refl

-- a word as long as its form has it where each pair of characters fits
pub form-pairs : (form word : List ℕ) → length word ≡ length form → has_form form word ≡ list_all (λ (p : ℕ × ℕ). fits p.0 p.1) (zip form word)
unfolding has_form
form-pairs [] [] e = refl
form-pairs [] (x ∷ w) e = absurd (omega arith)
form-pairs (p ∷ ps) [] e = absurd (omega arith)
form-pairs (p ∷ ps) (x ∷ w) e = ap (λ (b : Bool). fits p x && b) (form-pairs ps w (omega arith))

-- ---- one character after the other

form_here : (p x : ℕ) (ps w : List ℕ) → fits p x ≡ true → has_form (p ∷ ps) (x ∷ w) ≡ has_form ps w
unfolding has_form
form_here p x ps w e = rw e

form_not : (p x : ℕ) (ps w : List ℕ) → fits p x ≡ false → has_form (p ∷ ps) (x ∷ w) ≡ false
unfolding has_form
form_not p x ps w e = rw e

form_none : has_form [] [] ≡ true
unfolding has_form
form_none = refl

-- the first i characters fit
pub record Fitting (form word : List ℕ) (i : ℕ) : Type 0 where
  pub rest : has_form form word ≡ has_form (drop i form) (drop i word)
  pub same : length word ≡ length form
  pub place : i ≤ length form

module _ (form word : List ℕ) where
  pub fitting-start : length word ≡ length form → Fitting form word 0
  fitting-start e = record { rest = refl; same = e; place = omega arith }

  module _ (i : ℕ) (f : Fitting form word i) where
    pub fitting-not : i < length form → fits (get_or form i 0) (get_or word i 0) ≡ false → false ≡ has_form form word
    fitting-not l e = sym (f.rest ∙ rw (from_here form i 0 l, from_here word i 0 (omega (arith, f.same))) (form_not _ _ _ _ e))

    pub fitting-more : i < length form → fits (get_or form i 0) (get_or word i 0) ≡ true → Fitting form word (i + 1)
    fitting-more l e =
        record {
          rest = f.rest ∙ rw (from_here form i 0 l, from_here word i 0 (omega (arith, f.same))) (form_here _ _ _ _ e);
          same = f.same;
          place = omega arith;
        }

    pub fitting-all : length form ≤ i → true ≡ has_form form word
    fitting-all l = sym (f.rest ∙ rw (from_end form i l, from_end word i (omega (arith, f.same))) form_none)
