-- Each call gives its letter of the page, and the letters are put together.
use Rattle.std.proofs.Common.{◌≡◌, ap, ap₂, ◌∙◌, ℤ, nat_abs, ◌+ℤ◌, ◌-ℤ◌, ◌*ℤ◌, arith, to_z, of_z, w64}
use mathlib.Core.List.{[], ◌∷◌}
use Rattle.rounding.specs.laws.Code.{Code, arg, add, sub, mul, Within, whole, ends, ◌▹◌, fits, runs, within, read_back, read-size}
use Rattle.sine.specs.laws.SineLaws.{sine-size, cosine-size}
use Rattle.elements.specs.declared.Axis.{Axis}
use Rattle.shadow_geometry.specs.Shadow.{Moment, moment_of, H, d, ξ, q, η, ζ, u, v}
use Rattle.station.specs.declared.Place.{Place}
use Rattle.station.specs.Sizes.{PlaceSizes}
use Rattle.shadow.specs.declared.AxisAt.{AxisAt}
use Rattle.shadow.specs.declared.Orientation.{Orientation}
use Rattle.shadow.specs.declared.Coordinates.{Coordinates}
use Rattle.shadow.specs.Shadow.{IsOrientation, AreCoordinates, AxisAtSizes, Stands}
use Rattle.shadow.proofs.offset_of.Goals as goal

abbrev sum : Code
sum = add (arg 0) (arg 1)

abbrev east : Code
east = sub (arg 0) (arg 1)

abbrev north : Code
north = sub (arg 2) (arg 3)

abbrev squares : Code
squares = add (mul east east) (mul north north)

-- the orientation, of H and d as the code has them
orientation : (s : AxisAt) (p : Place) {o : Orientation} → AxisAtSizes s → PlaceSizes p
    → IsOrientation (to_z w64 (of_z w64 (to_z w64 (of_z w64 s.mu) +ℤ to_z w64 (of_z w64 p.longitude)))) (to_z w64 (of_z w64 s.d)) o
    → IsOrientation (s.mu +ℤ p.longitude) s.d o
orientation s p h k o =
    let w : Within (whole s.mu ∷ whole p.longitude ∷ []) (500000000 ∷ 200000000 ∷ []) = h.mu ▹ k.longitude ▹ ends in
    rw (runs w sum tt, read_back s.d h.d tt) at o

pub coordinates_of-c-requires : goal.coordinates_of-c-requires
coordinates_of-c-requires c =
    let a = c.args in
    let o = orientation a.axis a.place c.requires.1 c.requires.2 c.orientation_of-o.ensures in
    let h = a.axis.mu +ℤ a.place.longitude in (
      c.requires.2,
      record {
        hsine = omega (arith, ap nat_abs o.hsine, sine-size h);
        hcosine = omega (arith, ap nat_abs o.hcosine, cosine-size h);
        dsine = omega (arith, ap nat_abs o.dsine, sine-size a.axis.d);
        dcosine = omega (arith, ap nat_abs o.dcosine, cosine-size a.axis.d);
      },
    )

-- x and ξ, y and η
sides : (s : AxisAt) (p : Place) {o : Orientation} {x : Coordinates} → AxisAtSizes s → AreCoordinates p o x
    → Within (whole s.x ∷ whole x.xi ∷ whole s.y ∷ whole x.eta ∷ []) (501170000 ∷ 101000000 ∷ 501170000 ∷ 202000000 ∷ [])
sides s p h k = h.x ▹ k.xi.size ▹ h.y ▹ k.eta.size ▹ ends

pub overflow_mul-m : goal.overflow_mul-m
overflow_mul-m c = fits (sides c.args.axis c.args.place c.requires.1 c.coordinates_of-c.ensures) (mul east east) tt

pub overflow_mul-m-2 : goal.overflow_mul-m-2
overflow_mul-m-2 c = fits (sides c.args.axis c.args.place c.requires.1 c.coordinates_of-c.ensures) (mul north north) tt

pub overflow_add-m : goal.overflow_add-m
overflow_add-m c = fits (sides c.args.axis c.args.place c.requires.1 c.coordinates_of-c.ensures) squares tt

-- the letters of a moment whose axis stands there
module _ {s : AxisAt} {p : Place} {o : Orientation} {x : Coordinates} (i : IsOrientation (s.mu +ℤ p.longitude) s.d o) (k : AreCoordinates p o x)
    (a : Axis) (τ : ℤ) (t : Stands a τ s) where
  abbrev m : Moment
  m = moment_of a p τ

  turned : IsOrientation (H m) (d m) o
  unfolding H
  turned = rw (t.mu, t.d) at i

  xi-is : x.xi ≡ ξ m
  unfolding ξ
  xi-is = k.xi.value ∙ rw turned.hsine

  eta-is : x.eta ≡ η m
  unfolding η q
  eta-is = k.eta.value ∙ rw (turned.hcosine, turned.dsine, turned.dcosine)

  zeta-is : x.zeta ≡ ζ m
  unfolding ζ q
  zeta-is = k.zeta.value ∙ rw (turned.hcosine, turned.dsine, turned.dcosine)

pub returns : goal.returns
unfolding u v
returns c a τ t =
    let s = c.args.axis in
    let i = orientation s c.args.place c.requires.1 c.requires.2 c.orientation_of-o.ensures in
    let x = c.coordinates_of-c in
    let w = sides s c.args.place c.requires.1 x.ensures in
    let eastward = ap₂ ◌-ℤ◌ t.x (xi-is i x.ensures a τ t) in
    let northward = ap₂ ◌-ℤ◌ t.y (eta-is i x.ensures a τ t) in
    record {
      u = record { value = runs w east tt ∙ eastward; size = within w east 602170000 tt };
      v = record { value = runs w north tt ∙ northward; size = within w north 703170000 tt };
      zeta = record {
        value = read_back x.result.zeta x.ensures.zeta.size tt ∙ zeta-is i x.ensures a τ t;
        size = read-size x.result.zeta 202000000 x.ensures.zeta.size tt;
      };
      m = record { value = runs w squares tt ∙ ap₂ (λ (a b : ℤ). a *ℤ a +ℤ b *ℤ b) eastward northward; size = within w squares 1000000000000000000 tt };
    }
