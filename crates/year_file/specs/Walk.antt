-- The year file, walked. Document 02, wish 11: "Sheets are appended to one file, and a bad card left holes in it."
use Rattle.std.specs.Prelude.{ℕ, zero, suc, ◌+◌, ◌-◌, List, [], ◌∷◌, ◌++◌, length, take, drop}
use Rattle.big_endian.specs.Numbers.{eight}
use Rattle.sheet_codec.specs.Sheets.{Sheet, sheet, refused, read_sheet}

-- ---- the walk

-- a step: a whole sheet kept, or one byte dropped
pub data Step : Type 0 where
  keep : List ℕ → Step
  lose : Step

-- "where a whole well-formed sheet begins, keep it and go on behind it; otherwise drop one byte"
abbrev pub step_from : List ℕ → Sheet → (List ℕ → List Step) → List Step
step_from s (sheet es n) go = keep (take n s) ∷ go (drop n s)
step_from s (refused r) go = lose ∷ go (drop 1 s)

-- "Go from the start": the steps over some bytes. A step takes a byte at least, so there are no more steps than bytes.
unfoldable pub walk : ℕ → List ℕ → List Step
walk zero s = []
walk (suc fuel) [] = []
walk (suc fuel) (x ∷ s) = step_from (x ∷ s) (read_sheet (x ∷ s)) (walk fuel)

unfoldable pub steps : List ℕ → List Step
steps s = walk (length s) s

-- ---- what was kept

-- "Write the kept sheets in order"
unfoldable pub kept_in : List Step → List ℕ
kept_in [] = []
kept_in (keep x ∷ ts) = x ++ kept_in ts
kept_in (lose ∷ ts) = kept_in ts

abbrev pub kept : List ℕ → List ℕ
kept file = kept_in (steps file)

-- ---- what was dropped

-- "its start and its length"
pub record Stretch : Type 0 where
  pub from : ℕ
  pub long : ℕ

-- the stretch of n dropped bytes that ends before the place `at`; none where n is 0
abbrev pub ended : ℕ → ℕ → List Stretch
ended at zero = []
ended at (suc n) = record { from = at - suc n; long = suc n } ∷ []

-- "each unbroken dropped stretch": those of the steps from the place `at` on, where n bytes were dropped right before
-- it
unfoldable pub stretches_in : ℕ → ℕ → List Step → List Stretch
stretches_in at n [] = ended at n
stretches_in at n (keep x ∷ ts) = ended at n ++ stretches_in (at + length x) 0 ts
stretches_in at n (lose ∷ ts) = stretches_in (at + 1) (n + 1) ts

abbrev pub stretches : List ℕ → List Stretch
stretches file = stretches_in 0 0 (steps file)

-- "as 16 bytes, its start and its length, 8 each, big-endian"
abbrev pub note_of : Stretch → List ℕ
note_of t = eight t.from ++ eight t.long

-- "apart and in order"
unfoldable pub notes_of : List Stretch → List ℕ
notes_of [] = []
notes_of (t ∷ ts) = note_of t ++ notes_of ts

abbrev pub notes : List ℕ → List ℕ
notes file = notes_of (stretches file)
