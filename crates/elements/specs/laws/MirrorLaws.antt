-- Laws of mirrored elements, an eclipse's and a star's.
--   cubic-opposite, quadratic-opposite   of opposite coefficients the value is the opposite
--   mirrored-checked                     the mirrored numbers are refused as the numbers are
--   mirrored_alike, body_alike           in their ranges all ways of changing a sign give the same elements
--   elements-twice, body_twice           taken twice the mirror gives the first back
--   axis_mirrored                        the axis of the mirrored body is the mirrored axis
use Rattle.std.specs.Prelude.{◌≡◌, refl, [], ◌∷◌, ℕ, ◌≤◌, ℤ, neg_ℤ, nat_abs, ◌+ℤ◌, ◌*ℤ◌, Option}
use Rattle.std.proofs.Common.{ap, ◌∙◌, arith}
use Rattle.std.specs.Int.Signed.{le_z_yes}
use Rattle.rounding.specs.Limits.{◌±◌, out_of_range, first_out_of_range}
use Rattle.rounding.specs.laws.Ring.{◌⊕◌, ◌⊗◌, opp, ring, v0, v1}
use Rattle.rounding.specs.Units.{hour}
use Rattle.rounding.specs.Near.{near}
use Rattle.rounding.proofs.laws.NearLaws.{near-opposite}
use Rattle.sheet_types.specs.Refusals.{of_limits, andThen}
use Rattle.elements.specs.declared.Cubic.{Cubic}
use Rattle.elements.specs.declared.Quadratic.{Quadratic}
use Rattle.elements.specs.declared.Elements.{Elements}
use Rattle.elements.specs.declared.Star.{Star}
use Rattle.elements.specs.declared.Body.{Body}
use Rattle.elements.specs.declared.Body.TheVariants as B
use Rattle.elements.specs.Polynomial.{step, quadratic_at, cubic_at}
use Rattle.elements.specs.Elements.{ranges, range_of}
use Rattle.elements.specs.Sizes.{CubicSizes, ElementSizes}
use Rattle.elements.specs.Stars.{star_ranges, star_range_of, radius_range_of, body_checked, axis_of}
use Rattle.elements.specs.StarLaws.{BodySizes}
use Rattle.elements.specs.Mirror.{each_of_cubic, each_of_quadratic, mirrored_axis, mirrored_elements, mirrored_star, mirrored_body}

-- ---- values at a second
step-opposite : (τ p lower : ℤ) → step τ (neg_ℤ p) (neg_ℤ lower) ≡ neg_ℤ (step τ p lower)
unfolding step
step-opposite τ p lower =
    ap (λ (z : ℤ). near z hour +ℤ neg_ℤ lower) (ring (p ∷ τ ∷ []) (opp v0 ⊗ v1) (opp (v0 ⊗ v1)) tt)
    ∙ ap (λ (z : ℤ). z +ℤ neg_ℤ lower) (near-opposite (p *ℤ τ) hour (le_z_yes tt))
    ∙ ring (near (p *ℤ τ) hour ∷ lower ∷ []) (opp v0 ⊕ opp v1) (opp (v0 ⊕ v1)) tt

pub quadratic-opposite : (q : Quadratic) (τ : ℤ) → quadratic_at (each_of_quadratic neg_ℤ q) τ ≡ neg_ℤ (quadratic_at q τ)
unfolding quadratic_at
quadratic-opposite q τ =
    ap (λ (p : ℤ). step τ p (neg_ℤ q.c0)) (step-opposite τ q.c2 q.c1) ∙ step-opposite τ (step τ q.c2 q.c1) q.c0

pub cubic-opposite : (c : Cubic) (τ : ℤ) → cubic_at (each_of_cubic neg_ℤ c) τ ≡ neg_ℤ (cubic_at c τ)
unfolding cubic_at
cubic-opposite c τ =
    ap (λ (p : ℤ). step τ (step τ p (neg_ℤ c.c1)) (neg_ℤ c.c0)) (step-opposite τ c.c3 c.c2)
    ∙ ap (λ (p : ℤ). step τ p (neg_ℤ c.c0)) (step-opposite τ (step τ c.c3 c.c2) c.c1)
    ∙ step-opposite τ (step τ (step τ c.c3 c.c2) c.c1) c.c0

-- ---- ranges
module _ (f : ℤ → ℤ) (h : (z : ℤ) (n : ℕ) → out_of_range (f z ± n) ≡ out_of_range (z ± n)) where
  mirrored_range : (e : Elements) → range_of (mirrored_elements f e) ≡ range_of e
  unfolding range_of ranges first_out_of_range
  mirrored_range e =
      let a = e.axis in
      rw (
        h a.y.c0 200000000,
        h a.y.c1 100000000,
        h a.y.c2 100000,
        h a.y.c3 10000,
        h a.d.c0 25000000,
        h a.d.c1 20000,
        h a.d.c2 100,
      )

  star-range : (s : Star) → star_range_of (mirrored_star f s) ≡ star_range_of s
  unfolding star_range_of star_ranges first_out_of_range
  star-range s = rw (h s.y.c0 200000000, h s.y.c1 100000000, h s.y.c2 100000, h s.y.c3 10000, h s.d 30000000)

  pub mirrored-checked : (b : Body) → body_checked (mirrored_body f b) ≡ body_checked b
  mirrored-checked (B.Sun e) = ap (of_limits 2) (mirrored_range e)
  mirrored-checked (B.Star s) = ap (λ (l : Option ℕ). andThen (of_limits 2 l) (of_limits 13 (radius_range_of s.radius))) (star-range s)

-- ---- ways of changing a sign
module _ (f g : ℤ → ℤ) (h : (z : ℤ) → nat_abs z ≤ 200000000 → f z ≡ g z) where
  north-alike : (c : Cubic) → CubicSizes c → each_of_cubic f c ≡ each_of_cubic g c
  north-alike c y = rw (h c.c0 y.c0, h c.c1 (omega (arith, y.c1)), h c.c2 (omega (arith, y.c2)), h c.c3 (omega (arith, y.c3)))

  pub mirrored_alike : (e : Elements) → ElementSizes e → mirrored_elements f e ≡ mirrored_elements g e
  mirrored_alike e s =
      let d = s.axis.d in
      let q = e.axis.d in
      rw (
        north-alike e.axis.y s.axis.y,
        h q.c0 (omega (arith, d.c0)),
        h q.c1 (omega (arith, d.c1)),
        h q.c2 (omega (arith, d.c2)),
      )

  pub body_alike : (b : Body) → BodySizes b → mirrored_body f b ≡ mirrored_body g b
  body_alike (B.Sun e) z = ap B.Sun (mirrored_alike e z)
  body_alike (B.Star s) z = rw (north-alike s.y z.axis.y, h s.d (omega (arith, z.axis.d.c0)))

-- ---- taken twice
module _ (f : ℤ → ℤ) (back : (z : ℤ) → f (f z) ≡ z) where
  pub elements-twice : (e : Elements) → mirrored_elements f (mirrored_elements f e) ≡ e
  elements-twice e =
      let y = e.axis.y in
      let d = e.axis.d in
      rw (back y.c0, back y.c1, back y.c2, back y.c3, back d.c0, back d.c1, back d.c2)

  pub body_twice : (b : Body) → mirrored_body f (mirrored_body f b) ≡ b
  body_twice (B.Sun e) = ap B.Sun (elements-twice e)
  body_twice (B.Star s) = let y = s.y in rw (back y.c0, back y.c1, back y.c2, back y.c3, back s.d)

-- ---- the axis
-- a star's is mirrored as an eclipse's: 0 is its own opposite
pub axis_mirrored : (b : Body) → axis_of (mirrored_body neg_ℤ b) ≡ mirrored_axis neg_ℤ (axis_of b)
axis_mirrored (B.Sun e) = refl
axis_mirrored (B.Star s) = refl
