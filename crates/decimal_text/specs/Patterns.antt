-- A pattern of a line, filled with numbers.
use Rattle.std.specs.Prelude.{ℕ, ◌+◌, List, [], ◌∷◌, ◌++◌, cond, eqb, ℤ, pos, get_or}
use Rattle.decimal_text.specs.Decimals.{signed}

-- a pattern's byte: # (35) stands for a number, any other for itself
unfoldable pub piece : ℕ → ℤ → List ℕ
piece x v = cond (eqb x 35) (signed v) (x ∷ [])

-- which number the next # stands for, after the byte x
abbrev pub number_after : ℕ → ℕ → ℕ
number_after x k = cond (eqb x 35) (k + 1) k

-- a pattern filled with numbers, from the k-th on; one that is not there is 0
unfoldable pub filled : List ℤ → ℕ → List ℕ → List ℕ
filled numbers k [] = []
filled numbers k (x ∷ s) = piece x (get_or numbers k (pos 0)) ++ filled numbers (number_after x k) s
