-- Phases, and lists of them. Definitions only.
use Rattle.std.specs.Prelude.{ℕ, ◌+◌, ◌≡◌, List, [], ◌∷◌, Bool, true, false, ◌⊎◌}
use Rattle.sheet_types.specs.declared.phases.Phase.{Phase}
use Rattle.sheet_types.specs.declared.phases.Phase.TheVariants.{Penumbra, Central, Star}

-- "Order: head, penumbra by time, central by time ..": the phases of an eclipse
abbrev pub eclipse : List Phase
eclipse = Penumbra ∷ Central ∷ []

-- document 02, wish 7: "for a star with its one phase in place of penumbra and central"
abbrev pub star : List Phase
star = Star ∷ []

abbrev pub same : Phase → Phase → Bool
same Penumbra Penumbra = true
same Penumbra Central = false
same Penumbra Star = false
same Central Penumbra = false
same Central Central = true
same Central Star = false
same Star Penumbra = false
same Star Central = false
same Star Star = true

-- a phase is one of a list
abbrev pub Listed : Phase → List Phase → Type 0
Listed φ [] = ⊥
Listed φ (ψ ∷ ψs) = (φ ≡ ψ) ⊎ Listed φ ψs

-- how often it is
abbrev pub one_if : Bool → ℕ
one_if true = 1
one_if false = 0

abbrev pub times : Phase → List Phase → ℕ
times φ [] = 0
times φ (ψ ∷ ψs) = one_if (same φ ψ) + times φ ψs
