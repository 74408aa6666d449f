-- The numbers of the elements and the elements of 22 numbers: each undoes the other.
use Rattle.std.specs.Prelude.{◌≡◌, refl, List, [], ◌∷◌, ℕ, zero, suc, ℤ, pos, length, get_or}
use Rattle.std.proofs.Common.{ap, arith}
use Rattle.elements.specs.declared.Elements.{Elements}
use Rattle.elements.specs.Elements.{fields, elements_of}

pub elements_of_fields : (e : Elements) → elements_of (fields e) ≡ e
unfolding elements_of
elements_of_fields e = refl

-- a list of k numbers, number by number
abbrev pub spelled : ℕ → (ℕ → ℤ) → List ℤ
spelled zero f = []
spelled (suc k) f = f 0 ∷ spelled k (λ i. f (suc i))

pub spell : (k : ℕ) (n : List ℤ) → length n ≡ k → spelled k (λ i. get_or n i (pos 0)) ≡ n
spell zero [] e = refl
spell zero (x ∷ n) e = absurd (omega arith)
spell (suc k) [] e = absurd (omega arith)
spell (suc k) (x ∷ n) e = ap (λ (l : List ℤ). x ∷ l) (spell k n (omega arith))

pub fields_of_elements : (n : List ℤ) → length n ≡ 22 → fields (elements_of n) ≡ n
unfolding elements_of
fields_of_elements n e = spell 22 n e
