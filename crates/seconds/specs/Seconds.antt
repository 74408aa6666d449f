-- The seconds of an occultation: what is said of each. Definitions only.
use Rattle.std.specs.Prelude.{ℕ, List, ℤ, nat_abs, ◌-ℤ◌}
use Rattle.sheet_types.specs.declared.phases.Phase.{Phase}
use Rattle.sheet_types.specs.States.{State, code}
use Rattle.elements.specs.declared.Body.{Body}
use Rattle.elements.specs.declared.Body.TheVariants as B
use Rattle.elements.specs.Stars.{axis_of}
use Rattle.station.specs.declared.Place.{Place}
use Rattle.station.specs.Place.{place_of}
use Rattle.shadow_geometry.specs.Shadow.{Moment, moment_of, M}
use Rattle.shadow.specs.Second as Shadow
use Rattle.requests.specs.declared.Occultation.{Occultation}
use Rattle.requests.specs.Windows.{nth_second, each_second}
use Rattle.seconds.specs.Closest.{closest_to}

-- what the shadow at second τ is made of
abbrev pub moment_at : Occultation → ℤ → Moment
moment_at o τ = moment_of (axis_of o.body) (place_of o.station) τ

-- the state of a phase, the direction and the magnitude at second τ (shadow, Second). Document 02, wish 9: "Each 16 in
-- the shadow rules becomes the guard"
unfoldable pub state_at : Occultation → Phase → ℤ → State
state_at o φ τ = Shadow.state_at o.guard o.body (place_of o.station) φ τ

unfoldable pub direction_at : Occultation → ℤ → ℕ
direction_at o τ = Shadow.direction_at (axis_of o.body) (place_of o.station) τ

-- document 02, wish 7: "closest carries magnitude 0"
abbrev pub magnitude_of : (guard : ℤ) → Body → Place → ℤ → ℕ
magnitude_of guard (B.Sun e) p τ = Shadow.magnitude_at guard e p τ
magnitude_of guard (B.Star s) p τ = 0

unfoldable pub magnitude_at : Occultation → ℤ → ℕ
magnitude_at o τ = magnitude_of o.guard o.body (place_of o.station) τ

-- the states of a phase, a byte a second: 0 outside, 1 inside, 2 unsure
abbrev pub states_of : Occultation → Phase → List ℕ
states_of o φ = each_second o.window (λ τ. code (state_at o φ τ))

-- "*Closest* is the second of smallest M, the earliest of equals", counted from the window's first
unfoldable pub closestOf : Occultation → ℕ
closestOf o = closest_to (λ k. M (moment_at o (nth_second o.window k))) (nat_abs (o.window.last -ℤ o.window.first))
