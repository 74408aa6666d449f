-- Ranges: the first of several numbers that is out of its own.
use Rattle.std.specs.Prelude.{Bool, cond, ◌||◌, List, [], ◌∷◌, ℕ, suc, ℤ, pos, neg_ℤ, ◌≤ℤ◌, Option, None, Some}
use Rattle.std.specs.Int.Signed.{lt_z}

-- a row of a table of ranges: a number, and the lowest and the highest that it may be
pub record Row : Type 0 where
  pub value : ℤ
  pub low : ℤ
  pub high : ℤ

abbrev pub row : (value low high : ℤ) → Row
row x l h = record { value = x; low = l; high = h }

-- of either sign, at most n in size
infix 50 ◌±◌
abbrev pub ◌±◌ : ℤ → ℕ → Row
x ± n = row x (neg_ℤ (pos n)) (pos n)

-- "each range inclusive": out of it is below the lowest or above the highest
abbrev pub out_of_range : Row → Bool
out_of_range r = lt_z r.value r.low || lt_z r.high r.value

-- the first row whose number is out of its range, by its place counted from i; `None` where there is none
unfoldable pub first_out_of_range : ℕ → List Row → Option ℕ
first_out_of_range i [] = None
first_out_of_range i (r ∷ rs) = cond (out_of_range r) (Some i) (first_out_of_range (suc i) rs)

-- each number is in its range
abbrev pub EachInRange : List Row → Type 0
EachInRange [] = Unit
EachInRange (r ∷ rs) = ((r.low ≤ℤ r.value) × (r.value ≤ℤ r.high)) × EachInRange rs

-- the rows of three lists of one length, as the code has them
abbrev pub rows : (values lows highs : List ℤ) → List Row
rows (x ∷ xs) (l ∷ ls) (h ∷ hs) = row x l h ∷ rows xs ls hs
rows [] ls hs = []
rows (x ∷ xs) [] hs = []
rows (x ∷ xs) (l ∷ ls) [] = []
