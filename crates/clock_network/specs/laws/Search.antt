-- The search for the steps: what is known so far, and what one pass determines.
use Rattle.std.specs.Prelude.{◌≡◌, ℕ, zero, suc, ◌+◌, ◌<◌, ◌≤◌, List, [], ◌∷◌, length, get_or, ℤ, pos, Option, Some, None}
use Rattle.clock_network.specs.Steps.{Steps}

-- what is known is right
abbrev pub Sound : List ℤ → List ℤ → List ℕ → Type 0
Sound ns cs st = (i : ℕ) → (get_or st i 0 ≡ 0 → ⊥) → Steps ns cs i (get_or st i 0)

-- how many places have no steps yet
unfoldable pub zeros : List ℕ → ℕ
zeros [] = 0
zeros (zero ∷ l) = suc (zeros l)
zeros (suc n ∷ l) = zeros l

-- no steps are more than the places that have steps
abbrev pub Small : List ℕ → Type 0
Small st = (k : ℕ) → get_or st k 0 + zeros st ≤ 64

-- the known steps do not determine those of place i
abbrev pub Untold : List ℤ → List ℤ → List ℕ → ℕ → Type 0
Untold ns cs st i = (get_or cs i (pos 0) ≡ pos 0 → ⊥) × ((j : ℕ) → j < length ns → get_or ns j (pos 0) ≡ get_or cs i (pos 0) → get_or st j 0 ≡ 0)

pub record NextIs (ns cs : List ℤ) (st : List ℕ) (i r : ℕ) : Type 0 where
  pub told : (r ≡ 0 → ⊥) → Sound ns cs st → Steps ns cs i r
  pub untold : r ≡ 0 → Untold ns cs st i
  pub small : r + zeros st ≤ 65

abbrev pub ReadyIs : List ℤ → List ℤ → List ℕ → Option (ℕ × ℕ) → Type 0
ReadyIs ns cs st (Some (i, s)) = (i < length ns) × ((get_or st i 0 ≡ 0) × ((s ≡ 0 → ⊥) × ((Sound ns cs st → Steps ns cs i s) × (s + zeros st ≤ 65))))
ReadyIs ns cs st None = (i : ℕ) → i < length ns → get_or st i 0 ≡ 0 → Untold ns cs st i
