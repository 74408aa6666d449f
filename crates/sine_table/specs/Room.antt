-- Table S in a caller-provided buffer, and as it is stored. Document 02, wish 8, "A smaller sine table". Definitions
-- only.
use Rattle.std.specs.Prelude.{◌≡◌, List, [], ◌∷◌, ◌++◌, map, ℕ, zero, suc, ◌+◌, ℤ, pos, ◌+ℤ◌, length, drop}
use Rattle.sine_table.specs.Table.{S}

-- n entries, from entry k on
abbrev pub entries_from : (k n : ℕ) → List ℕ
entries_from k zero = []
entries_from k (suc n) = S k ∷ entries_from (suc k) n

-- "Table S has 901 entries"
unfoldable pub table : List ℕ
table = entries_from 0 901

-- "each request fills 901 numbers of lent room .. The filled room equals the old table at every place"; past them it
-- is as it was
unfoldable pub filled : List ℕ → List ℕ
filled room = table ++ drop 901 room

-- ---- "Store the first two entries as now and the second differences"

-- what an entry, the step to the next and the second differences from there on give: each is by how much the step
-- after a step is more than it
abbrev pub given : (entry step : ℤ) → List ℤ → List ℤ
given entry step [] = entry ∷ (entry +ℤ step) ∷ []
given entry step (d ∷ ds) = entry ∷ given (entry +ℤ step) (step +ℤ d) ds

-- they give table S from entry k on, to its end
pub record Gives (k : ℕ) (entry step : ℤ) (ds : List ℤ) : Type 0 where
  pub size : k + length ds ≡ 899
  pub entries : given entry step ds ≡ map pos (entries_from k (suc (suc (length ds))))
