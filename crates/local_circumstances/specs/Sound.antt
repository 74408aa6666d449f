-- A course whose sheet keeps a reader's rules: its numbers are in their ranges, and each phase comes once, in the
-- order of the sheet.
use Rattle.std.specs.Prelude.{◌≡◌, List, [], ◌∷◌, true, false, ◌⊎◌, ◌≤◌, ◌<◌, ℤ}
use Rattle.sheet_types.specs.declared.phases.Phase.{Phase}
use Rattle.sheet_types.specs.declared.phases.Phase.TheVariants.{Star}
use Rattle.sheet_types.specs.Phases.{same, Listed, times}
use Rattle.requests.specs.Windows.{InWindow, second_count}
use Rattle.requests.specs.WindowLaws.{WindowHolds}
use Rattle.sheet_rules.specs.Order.{phase_follows}
use Rattle.local_circumstances.specs.Courses.{Course, second}

-- each phase stands before the next in the order of a sheet: entries of the next, another one, may follow its own
abbrev pub InOrder : List Phase → Type 0
InOrder [] = Unit
InOrder (φ ∷ []) = Unit
InOrder (φ ∷ ψ ∷ ψs) = (phase_follows φ ψ ≡ true) × (same φ ψ ≡ false) × InOrder (ψ ∷ ψs)

pub record Sound (c : Course) : Type 0 where
  pub station : (1 ≤ c.station) × (c.station ≤ 999)
  pub window : WindowHolds c.window
  pub guard : (16 ≤ c.guard) × (c.guard ≤ 1000)
  pub once : (φ : Phase) → Listed φ c.phases → times φ c.phases ≡ 1
  pub order : InOrder c.phases
  pub direction : (τ : ℤ) → (c.direction τ ≤ 3599) ⊎ (c.direction τ ≡ 65535)
  pub closest : c.closest < second_count c.window
  pub magnitude : (τ : ℤ) → InWindow c.window τ → c.magnitude τ ≤ 1300000
  pub share : (τ : ℤ) → InWindow c.window τ → c.share τ ≤ 1000000
  -- document 02, wish 7: "A star request has no way to ask for kind 31"; "closest carries magnitude 0"
  pub star_unshared : Listed Star c.phases → c.sharing ≡ false
  pub star-magnitude : Listed Star c.phases → c.magnitude (second c c.closest) ≡ 0
