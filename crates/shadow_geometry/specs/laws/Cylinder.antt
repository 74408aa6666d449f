-- Document 02, wish 7: "The shadow is a cylinder: no cone term, no central phase, L a lunar radius given with the
-- request".
--   cylinder_L      L is the radius, at every second of every station
--   cylinder_exact  and so is the exact L: "the radius as the exact L"
--   star_d          "The elements are x, y, d0 and μ": d is d0 at every second
use Rattle.std.specs.Prelude.{◌≡◌, [], ◌∷◌, ℤ, pos, ◌-ℤ◌, ◌*ℤ◌}
use Rattle.std.proofs.Common.{ap, ap₂, ◌∙◌}
use Rattle.std.specs.Int.Signed.{le_z_yes}
use Rattle.rounding.specs.laws.Ring.{num, ◌⊕◌, ◌⊖◌, ◌⊗◌, ring, v0, v1, v2}
use Rattle.rounding.specs.Units.{one}
use Rattle.rounding.specs.Near.{near}
use Rattle.rounding.proofs.laws.NearLaws.{near_zero}
use Rattle.elements.specs.declared.Star.{Star}
use Rattle.elements.specs.Stars.{star_axis, cylinder_of}
use Rattle.elements.specs.StarLaws.{constant-at}
use Rattle.station.specs.declared.Place.{Place}
use Rattle.shadow_geometry.specs.Shadow.{Moment, moment_of, d, ζ, L}
use Rattle.shadow_geometry.specs.Exact.{D, exact-quadratic, exact_ζ, exact_term, exact_L}

pub cylinder_L : (m : Moment) (s : Star) → L m (cylinder_of s) ≡ s.radius
unfolding L
cylinder_L m s =
    ap₂ (λ (l t : ℤ). l -ℤ t) (constant-at s.radius m.τ)
    (ap (λ (z : ℤ). near z one) (ring (ζ m ∷ []) (v0 ⊗ num 0) (num 0) tt) ∙ near_zero one (le_z_yes tt))
    ∙ ring (s.radius ∷ []) (v0 ⊖ num 0) v0 tt

pub cylinder_exact : (m : Moment) (s : Star) → exact_L m (cylinder_of s) ≡ s.radius *ℤ pos D
unfolding exact_L exact-quadratic exact_term
cylinder_exact m s =
    ring (s.radius ∷ m.τ ∷ exact_ζ m ∷ [])
    ((v0 ⊗ num 46656000000 ⊕ num 0 ⊗ v1 ⊗ num 12960000 ⊕ num 0 ⊗ (v1 ⊗ v1) ⊗ num 3600) ⊗ num 1000000000000000000000000 ⊖ v2 ⊗ num 0 ⊗ num 46656000000)
    (v0 ⊗ num 46656000000000000000000000000000000) tt

pub star_d : (s : Star) (p : Place) (τ : ℤ) → d (moment_of (star_axis s) p τ) ≡ s.d
star_d s p τ = constant-at s.d τ
