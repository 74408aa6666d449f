-- The hour angle and the declination at a second.
use Rattle.std.specs.Prelude.{◌≡◌, ◌≤◌, ℤ, nat_abs, ◌+ℤ◌}
use Rattle.std.proofs.Common.{sym, arith}
use Rattle.std.proofs.Math.IntN.{+ℤ_assoc}
use Rattle.sine.specs.Sine.{sine}
use Rattle.sine.specs.laws.SizeLaws.{sine_small}
use Rattle.elements.specs.declared.Axis.{Axis}
use Rattle.elements.specs.Elements.{μ_at}
use Rattle.elements.specs.laws.PolynomialLaws.{quadratic-size}
use Rattle.station.specs.declared.Place.{Place}
use Rattle.shadow_geometry.specs.Shadow.{Moment, moment_of, H, d}
use Rattle.shadow_geometry.specs.laws.Ranges.{MomentSizes}

-- the place, a step farther to the east
abbrev pub east_of : Place → (step : ℤ) → Place
east_of p step = record { r = p.r; p = p.p; longitude = p.longitude +ℤ step }

-- "longitude .. **east positive**": a step to the east adds to H
pub H_east : (a : Axis) (p : Place) (step τ : ℤ) → H (moment_of a (east_of p step) τ) ≡ H (moment_of a p τ) +ℤ step
unfolding H
H_east a p step τ = sym (+ℤ_assoc (μ_at a τ) p.longitude step)

module _ (m : Moment) (h : MomentSizes m) where
  -- the declination stays within 25.1 degrees, so its sine within 0.43
  pub d-size : nat_abs (d m) ≤ 25100000
  d-size = omega (arith, quadratic-size m.axis.d h.axis.d m.τ h.τ)

  pub sine-d-size : nat_abs (sine (d m)) ≤ 43000000
  sine-d-size = sine_small (d m) d-size
