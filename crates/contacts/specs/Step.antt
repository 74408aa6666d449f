-- The entries one by one: what a step at a cursor promises. Definitions only.
use Rattle.std.specs.Prelude.{ℕ, zero, suc, ◌-◌, ◌≤◌, ◌<◌, ◌≡◌, List, [], ◌∷◌, length, get_or, drop, Option, None, Some}
use Rattle.run_length.specs.Runs.{decoded, Whole}
use Rattle.contacts.specs.declared.Cursor.{Cursor}
use Rattle.contacts.specs.declared.entries.Entry.{Entry}
use Rattle.contacts.specs.Entries.{Last, none, last, side, walk, from, to}

-- the last sure second before a cursor: none at the start, and else the second just before it.
-- (A cursor that a step gave has a sure second just before it, or the whole window behind it.)
abbrev pub last_before : List ℕ → ℕ → Last
last_before s zero = none
last_before s (suc k) = last (side (get_or s k 0)) k

-- the entries that are left at a cursor
unfoldable pub entries_from : List ℕ → ℕ → List Entry
entries_from s at = walk (last_before s at) at (drop at s)

-- of phase k, the run of second i is at a place of the bytes; or both are at the end
pub record Stands (k : ℕ) (bytes : List ℕ) (i place : ℕ) : Type 0 where
  pub second : i ≤ length (decoded k bytes)
  pub byte : place ≤ length bytes
  pub left : drop i (decoded k bytes) ≡ decoded k (drop place bytes)
  pub whole : Whole (drop place bytes)

-- the cursor is one of phase k of the bytes
pub record At (k : ℕ) (bytes : List ℕ) (c : Cursor) : Type 0 where
  pub stands : Stands k bytes c.at c.run
  pub before : 0 < c.at → side (get_or (decoded k bytes) (c.at - 1) 0) ≡ side c.was
  pub start : c.at ≡ 0 → c.run ≡ 0

-- an answer as the list that it starts: its entry, and then those that are left at its cursor
abbrev pub stepped : List ℕ → Option (Entry × Cursor) → List Entry
stepped s None = []
stepped s (Some (e, c)) = e ∷ entries_from s c.at

-- the cursor goes forward, and it and the entry's seconds are of the window
abbrev pub Forward : ℕ → List ℕ → ℕ → Option (Entry × Cursor) → Type 0
Forward k bytes at None = Unit
Forward k bytes at (Some (e, c)) = (at < c.at) × At k bytes c × (from e ≤ to e) × (to e < length (decoded k bytes))

-- what a step of phase k at a cursor answers
pub record Stepped (k : ℕ) (bytes : List ℕ) (at : ℕ) (r : Option (Entry × Cursor)) : Type 0 where
  pub rest : entries_from (decoded k bytes) at ≡ stepped (decoded k bytes) r
  pub forward : Forward k bytes at r
