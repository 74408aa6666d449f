-- What is asked of two computed seconds, so that all seconds between them are on the same side of a circle.
-- Definitions only.
use Rattle.std.specs.Prelude.{◌⊎◌, ℕ, ℤ, pos, ◌+ℤ◌, ◌-ℤ◌, ◌*ℤ◌, ◌≤ℤ◌, ◌<ℤ◌}
use Rattle.shadow_geometry.specs.Shadow.{◌²}

-- how far a second may be off the chord of two others by roundings, with the radius, in units: i after the one and j
-- before the other it is off by at most 7/16 i j more
abbrev pub slack : ℕ
slack = 59

-- the margins α and β at the ends span a bend of q: α + β ≥ q, or 4 α β > (q - α - β)²
abbrev pub Spans : ℤ → ℤ → ℤ → Type 0
Spans α β q = (q ≤ℤ (α +ℤ β)) ⊎ (((q -ℤ α -ℤ β) ²) <ℤ (pos 4 *ℤ (α *ℤ β)))

-- two numbers are of one sign; 0 is of both
abbrev pub OneSign : ℤ → ℤ → Type 0
OneSign k n = ((pos 0 ≤ℤ k) × (pos 0 ≤ℤ n)) ⊎ ((k ≤ℤ pos 0) × (n ≤ℤ pos 0))
