-- What callers use of a star's elements, and of either body's.
--   constant-at               what has no other coefficient is the same at every second: a star's declination, a cylinder's radius
--   star_sizes, body_sizes    numbers that nothing is refused of have these sizes
--   axis_sizes                so of any axis
use Rattle.std.specs.Prelude.{◌≡◌, [], ◌∷◌, ℤ, pos, ◌+ℤ◌, ◌≤ℤ◌, Ok}
use Rattle.std.proofs.Common.{◌∙◌, ap, lit≤}
use Rattle.std.specs.Int.Signed.{le_z_yes}
use Rattle.rounding.specs.laws.Ring.{num, ◌⊕◌, ◌⊗◌, ring, v0}
use Rattle.rounding.specs.Units.{hour}
use Rattle.rounding.specs.Near.{near}
use Rattle.rounding.proofs.laws.NearLaws.{near_zero}
use Rattle.rounding.specs.laws.LimitsLaws.{each_in_range}
use Rattle.rounding.specs.laws.Order.{nat_abs_le}
use Rattle.sheet_types.specs.Refusals.{of_limits}
use Rattle.sheet_types.specs.laws.RefusalLaws.{of_limits_within, both-within}
use Rattle.elements.specs.declared.Star.{Star}
use Rattle.elements.specs.declared.Body.{Body}
use Rattle.elements.specs.declared.Body.TheVariants as B
use Rattle.elements.specs.Polynomial.{step, quadratic_at}
use Rattle.elements.specs.Elements.{range_of}
use Rattle.elements.specs.Sizes.{AxisSizes, ElementSizes, wider_axis, position_sizes, hour-angle_sizes, element_sizes}
use Rattle.elements.specs.Stars.{star_ranges, star_range_of, radius_range_of, star_checked, body_checked, constant, star_axis, axis_of}

-- ---- what does not change
step-none : (τ c : ℤ) → step τ (pos 0) c ≡ c
unfolding step
step-none τ c =
    ap (λ (z : ℤ). near z hour +ℤ c) (ring (τ ∷ []) (num 0 ⊗ v0) (num 0) tt)
    ∙ ap (λ (z : ℤ). z +ℤ c) (near_zero hour (le_z_yes tt))
    ∙ ring (c ∷ []) (num 0 ⊕ v0) v0 tt

pub constant-at : (c τ : ℤ) → quadratic_at (constant c) τ ≡ c
unfolding quadratic_at
constant-at c τ = ap (λ (p : ℤ). step τ p c) (step-none τ (pos 0)) ∙ step-none τ c

-- ---- sizes
pub record StarSizes (s : Star) : Type 0 where
  pub axis : AxisSizes 30000000 (star_axis s)
  pub low : pos 27200000 ≤ℤ s.radius
  pub high : s.radius ≤ℤ pos 27300000

pub star_sizes : (s : Star) → star_checked s ≡ Ok tt → StarSizes s
unfolding star_range_of star_ranges radius_range_of
star_sizes s e =
    let both = both-within (of_limits 2 (star_range_of s)) (of_limits 13 (radius_range_of s.radius)) e in
    let x = position_sizes s.x (each_in_range 0 (star_ranges s) (of_limits_within 2 (star_range_of s) both.0)) in
    let y = position_sizes s.y x.1 in
    let mu = hour-angle_sizes s.mu y.1.1 in
    let r = each_in_range 0 _ (of_limits_within 13 (radius_range_of s.radius) both.1) in
    record {
      axis = record {
        x = x.0;
        y = y.0;
        d = record { c0 = nat_abs_le s.d y.1.0.0 y.1.0.1; c1 = lit≤ tt; c2 = lit≤ tt };
        mu = mu.0;
      };
      low = r.0.0;
      high = r.0.1;
    }

abbrev pub BodySizes : Body → Type 0
BodySizes (B.Sun e) = ElementSizes e
BodySizes (B.Star s) = StarSizes s

pub body_sizes : (b : Body) → body_checked b ≡ Ok tt → BodySizes b
body_sizes (B.Sun e) h = element_sizes e (of_limits_within 2 (range_of e) h)
body_sizes (B.Star s) h = star_sizes s h

pub axis_sizes : (b : Body) → BodySizes b → AxisSizes 30000000 (axis_of b)
axis_sizes (B.Sun e) h = wider_axis h.axis (lit≤ tt)
axis_sizes (B.Star s) h = h.axis
