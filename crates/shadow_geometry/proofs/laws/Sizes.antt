-- How large the numbers of a second are, so that callers know that nothing overflows. Within the ranges:  |q|, |ξ| ≤
-- 101,000,000   |η|, |ζ| ≤ 150,000,000   |u| ≤ 602,170,000   |v| ≤ 651,170,000   M ≤ 8·10^17 and of a cone whose
-- constant is at most c:  |L| ≤ c + 1,140,000;  of the penumbra's, 48,860,000 ≤ L1.
use Rattle.std.specs.Prelude.{ℕ, ◌+◌, ◌≤◌, ℤ, pos, neg_ℤ, ◌+ℤ◌, ◌-ℤ◌, ◌*ℤ◌, ◌≤ℤ◌}
use native.Mathlib.Omega.{arith}
use Rattle.std.proofs.Math.IntN.{nat_abs}
use Rattle.std.specs.Int.Signed.{le_z_yes}
use Rattle.rounding.specs.Parts.{sum, opposite}
use Rattle.rounding.specs.laws.Order.{zs, nat_abs_parts, nat_abs_sum, nat_abs_minus, nat_abs_product_le, +ℤ_nonneg, square_nonneg}
use Rattle.rounding.specs.Units.{one, hour}
use Rattle.rounding.specs.Near.{near}
use Rattle.rounding.proofs.laws.NearLaws.{near-size}
use Rattle.sine.specs.Sine.{sine, cosine}
use Rattle.sine.specs.laws.SineLaws.{sine-size, cosine-size}
use Rattle.elements.specs.declared.Cone.{Cone}
use Rattle.elements.specs.Polynomial.{step, quadratic_at}
use Rattle.elements.specs.laws.PolynomialLaws.{part-size, step-size, quadratic-size, cubic-size}
use Rattle.elements.specs.Elements.{x_at, y_at, l_at}
use Rattle.elements.specs.Sizes.{ConeSizes}
use Rattle.shadow_geometry.specs.Shadow.{Moment, H, d, ◌², q, ξ, η, ζ, u, v, L, M}
use Rattle.shadow_geometry.specs.laws.Ranges.{MomentSizes}
use Rattle.shadow_geometry.specs.laws.Moments.{sine-d-size}

module _ (m : Moment) (h : MomentSizes m) where
  -- R times a sine or a cosine of H
  R-part-size : (z : ℤ) → nat_abs z ≤ 100000000 → nat_abs (near (m.place.r *ℤ z) one) ≤ 101000000
  R-part-size z s = near-size (m.place.r *ℤ z) one 101000000 (le_z_yes tt) (nat_abs_product_le m.place.r z 101000000 100000000 h.place.r s)

  pub q-size : nat_abs (q m) ≤ 101000000
  unfolding q
  q-size = R-part-size (cosine (H m)) (cosine-size (H m))

  pub ξ-size : nat_abs (ξ m) ≤ 101000000
  unfolding ξ
  ξ-size = R-part-size (sine (H m)) (sine-size (H m))

  pub η-size : nat_abs (η m) ≤ 150000000
  unfolding η
  η-size =
      near-size (m.place.p *ℤ cosine (d m) -ℤ q m *ℤ sine (d m)) one 150000000 (le_z_yes tt)
      (omega (
        arith,
        nat_abs_minus (m.place.p *ℤ cosine (d m)) (q m *ℤ sine (d m)),
        nat_abs_product_le m.place.p (cosine (d m)) 101000000 100000000 h.place.p (cosine-size (d m)),
        nat_abs_product_le (q m) (sine (d m)) 101000000 43000000 q-size (sine-d-size m h),
      ))

  pub ζ-size : nat_abs (ζ m) ≤ 150000000
  unfolding ζ
  ζ-size =
      near-size (m.place.p *ℤ sine (d m) +ℤ q m *ℤ cosine (d m)) one 150000000 (le_z_yes tt)
      (omega (
        arith,
        nat_abs_sum (m.place.p *ℤ sine (d m)) (q m *ℤ cosine (d m)),
        nat_abs_product_le m.place.p (sine (d m)) 101000000 43000000 h.place.p (sine-d-size m h),
        nat_abs_product_le (q m) (cosine (d m)) 101000000 100000000 q-size (cosine-size (d m)),
      ))

  pub u-size : nat_abs (u m) ≤ 602170000
  unfolding u
  u-size = omega (arith, nat_abs_minus (x_at m.axis m.τ) (ξ m), cubic-size m.axis.x h.axis.x m.τ h.τ, ξ-size)

  pub v-size : nat_abs (v m) ≤ 651170000
  unfolding v
  v-size = omega (arith, nat_abs_minus (y_at m.axis m.τ) (η m), cubic-size m.axis.y h.axis.y m.τ h.τ, η-size)

  pub M-size : nat_abs (M m) ≤ 800000000000000000
  M-size =
      omega (
        arith,
        nat_abs_sum (u m ²) (v m ²),
        nat_abs_product_le (u m) (u m) 602170000 602170000 u-size u-size,
        nat_abs_product_le (v m) (v m) 651170000 651170000 v-size v-size,
      )

pub M_nonneg : (m : Moment) → pos 0 ≤ℤ M m
M_nonneg m = +ℤ_nonneg (square_nonneg (u m)) (square_nonneg (v m))

module _ (m : Moment) (h : MomentSizes m) (k : Cone) {c : ℕ} (s : ConeSizes c k) where
  term-size : nat_abs (near (ζ m *ℤ k.tanf) one) ≤ 750000
  term-size = near-size (ζ m *ℤ k.tanf) one 750000 (le_z_yes tt) (nat_abs_product_le (ζ m) k.tanf 150000000 500000 (ζ-size m h) s.tanf)

  pub L-size : nat_abs (L m k) ≤ c + 1140000
  unfolding L
  L-size = omega (arith, nat_abs_minus (l_at k m.τ) (near (ζ m *ℤ k.tanf) one), quadratic-size k.l s.l m.τ h.τ, term-size)

  -- L is at most 1,140,000 below its constant
  pub L1-positive : pos 50000000 ≤ℤ k.l.c0 → pos 48860000 ≤ℤ L m k
  unfolding L quadratic_at step
  L1-positive low =
      let a = step m.τ k.l.c2 k.l.c1 in
      let n = near (a *ℤ m.τ) hour in
      let e = near (ζ m *ℤ k.tanf) one in
      let ha = step-size m.τ k.l.c2 k.l.c1 10000 100000 h.τ s.l.c2 s.l.c1 in
      let hn : nat_abs n ≤ 390000 = omega (arith, part-size m.τ a 130000 h.τ ha) in
      omega (arith, zs, nat_abs_parts n, nat_abs_parts e, term-size, (sum n k.l.c0).is, (sum (n +ℤ k.l.c0) (neg_ℤ e)).is, (opposite e).is)
