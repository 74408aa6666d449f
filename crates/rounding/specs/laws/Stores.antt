-- Stores one after the other.
use Rattle.std.specs.Prelude.{ℕ, suc, ◌+◌, ◌≡◌, List, [], ◌∷◌, ◌++◌, length, set}
use Rattle.std.proofs.Common.{arith, add-zero}
use Rattle.std.proofs.lemmas.List.Edits.{sets}

-- what is stored in one piece is what is stored in two, the second right behind the first
pub sets_append : {A : Type 0} (x y l : List A) (i : ℕ) → sets l i (x ++ y) ≡ sets (sets l i x) (i + length x) y
sets_append [] y l i = rw add-zero
sets_append (a ∷ x) y l i =
    let e : i + suc (length x) ≡ suc i + length x = omega arith in
    rw e (sets_append x y (set l i a) (suc i))
