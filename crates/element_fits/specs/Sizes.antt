-- Values of at most m in size. The code takes them up to 10^11: those of wish 14, ±10^9, and every x and y that the rows of wish 2 can give.
--   wider             a larger m will do
--   cubic-sizes       of values of at most m the cubic has coefficients of at most 8m
--   quadratic-sizes   of values of at most m the quadratic has coefficients of at most 5m, m and m
use Rattle.std.specs.Prelude.{ℕ, ◌*◌, ◌≤◌, nat_abs, ◌+ℤ◌, ◌-ℤ◌, ◌*ℤ◌}
use native.Mathlib.Omega.{arith}
use Rattle.std.proofs.Math.IntN.{pos}
use Rattle.std.specs.Int.Signed.{le_z_yes}
use Rattle.rounding.specs.laws.Order.{nat_abs_sum, nat_abs_minus, nat_abs_product}
use Rattle.rounding.specs.Near.{near}
use Rattle.rounding.proofs.laws.NearLaws.{near-size}
use Rattle.elements.specs.declared.Cubic.{Cubic}
use Rattle.elements.specs.Sizes.{QuadraticSizes}
use Rattle.element_fits.specs.declared.least_squares.Hourly.{Hourly}
use Rattle.element_fits.specs.LeastSquares.{sum, first, second, third, cubic, quadratic}

pub record HourlySizes (m : ℕ) (v : Hourly) : Type 0 where
  pub v0 : nat_abs v.v0 ≤ m
  pub v1 : nat_abs v.v1 ≤ m
  pub v2 : nat_abs v.v2 ≤ m
  pub v3 : nat_abs v.v3 ≤ m
  pub v4 : nat_abs v.v4 ≤ m
  pub v5 : nat_abs v.v5 ≤ m
  pub v6 : nat_abs v.v6 ≤ m

-- coefficients of at most m in size
pub record CoefficientSizes (m : ℕ) (c : Cubic) : Type 0 where
  pub c0 : nat_abs c.c0 ≤ m
  pub c1 : nat_abs c.c1 ≤ m
  pub c2 : nat_abs c.c2 ≤ m
  pub c3 : nat_abs c.c3 ≤ m

pub wider : {m n : ℕ} {v : Hourly} → HourlySizes m v → m ≤ n → HourlySizes n v
wider h l =
    record {
      v0 = omega (arith, h.v0);
      v1 = omega (arith, h.v1);
      v2 = omega (arith, h.v2);
      v3 = omega (arith, h.v3);
      v4 = omega (arith, h.v4);
      v5 = omega (arith, h.v5);
      v6 = omega (arith, h.v6);
    }

module _ {m : ℕ} (v : Hourly) (h : HourlySizes m v) where
  sum-size : nat_abs (sum v) ≤ 7 * m
  unfolding sum
  sum-size =
      omega (
        arith,
        nat_abs_sum (v.v0 +ℤ v.v1 +ℤ v.v2 +ℤ v.v3 +ℤ v.v4 +ℤ v.v5) v.v6,
        nat_abs_sum (v.v0 +ℤ v.v1 +ℤ v.v2 +ℤ v.v3 +ℤ v.v4) v.v5,
        nat_abs_sum (v.v0 +ℤ v.v1 +ℤ v.v2 +ℤ v.v3) v.v4,
        nat_abs_sum (v.v0 +ℤ v.v1 +ℤ v.v2) v.v3,
        nat_abs_sum (v.v0 +ℤ v.v1) v.v2,
        nat_abs_sum v.v0 v.v1,
        h.v0,
        h.v1,
        h.v2,
        h.v3,
        h.v4,
        h.v5,
        h.v6,
      )

  first-size : nat_abs (first v) ≤ 12 * m
  unfolding first
  first-size =
      omega (
        arith,
        nat_abs_sum (pos 3 *ℤ (v.v6 -ℤ v.v0) +ℤ pos 2 *ℤ (v.v5 -ℤ v.v1)) (v.v4 -ℤ v.v2),
        nat_abs_sum (pos 3 *ℤ (v.v6 -ℤ v.v0)) (pos 2 *ℤ (v.v5 -ℤ v.v1)),
        nat_abs_product (pos 3) (v.v6 -ℤ v.v0),
        nat_abs_product (pos 2) (v.v5 -ℤ v.v1),
        nat_abs_minus v.v6 v.v0,
        nat_abs_minus v.v5 v.v1,
        nat_abs_minus v.v4 v.v2,
        h.v0,
        h.v1,
        h.v2,
        h.v4,
        h.v5,
        h.v6,
      )

  second-size : nat_abs (second v) ≤ 20 * m
  unfolding second
  second-size =
      omega (
        arith,
        nat_abs_minus (pos 5 *ℤ (v.v0 +ℤ v.v6) -ℤ pos 3 *ℤ (v.v2 +ℤ v.v4)) (pos 4 *ℤ v.v3),
        nat_abs_minus (pos 5 *ℤ (v.v0 +ℤ v.v6)) (pos 3 *ℤ (v.v2 +ℤ v.v4)),
        nat_abs_product (pos 5) (v.v0 +ℤ v.v6),
        nat_abs_product (pos 3) (v.v2 +ℤ v.v4),
        nat_abs_product (pos 4) v.v3,
        nat_abs_sum v.v0 v.v6,
        nat_abs_sum v.v2 v.v4,
        h.v0,
        h.v2,
        h.v3,
        h.v4,
        h.v6,
      )

  c2-size : nat_abs (near (second v) (pos 84)) ≤ m
  c2-size = near-size (second v) (pos 84) m (le_z_yes tt) (omega (arith, second-size))

  c0-size : nat_abs (near (sum v -ℤ pos 28 *ℤ near (second v) (pos 84)) (pos 7)) ≤ 5 * m
  c0-size =
      let c2 = near (second v) (pos 84) in
      near-size (sum v -ℤ pos 28 *ℤ c2) (pos 7) (5 * m) (le_z_yes tt)
      (omega (arith, nat_abs_minus (sum v) (pos 28 *ℤ c2), nat_abs_product (pos 28) c2, c2-size, sum-size))

  pub quadratic-sizes : QuadraticSizes (5 * m) m m (quadratic v)
  unfolding quadratic
  quadratic-sizes =
      record {
        c0 = c0-size;
        c1 = near-size (first v) (pos 28) m (le_z_yes tt) (omega (arith, first-size));
        c2 = c2-size;
      }

  third-size : nat_abs (third v) ≤ 6 * m
  unfolding third
  third-size =
      omega (
        arith,
        nat_abs_minus ((v.v6 -ℤ v.v0) -ℤ (v.v5 -ℤ v.v1)) (v.v4 -ℤ v.v2),
        nat_abs_minus (v.v6 -ℤ v.v0) (v.v5 -ℤ v.v1),
        nat_abs_minus v.v6 v.v0,
        nat_abs_minus v.v5 v.v1,
        nat_abs_minus v.v4 v.v2,
        h.v0,
        h.v1,
        h.v2,
        h.v4,
        h.v5,
        h.v6,
      )

  c3-size : nat_abs (near (third v) (pos 36)) ≤ m
  c3-size = near-size (third v) (pos 36) m (le_z_yes tt) (omega (arith, third-size))

  c1-size : nat_abs (near (first v -ℤ pos 196 *ℤ near (third v) (pos 36)) (pos 28)) ≤ 8 * m
  c1-size =
      let c3 = near (third v) (pos 36) in
      near-size (first v -ℤ pos 196 *ℤ c3) (pos 28) (8 * m) (le_z_yes tt)
      (omega (arith, nat_abs_minus (first v) (pos 196 *ℤ c3), nat_abs_product (pos 196) c3, c3-size, first-size))

  pub cubic-sizes : CoefficientSizes (8 * m) (cubic v)
  unfolding cubic
  cubic-sizes =
      record {
        c0 = omega (arith, c0-size);
        c1 = c1-size;
        c2 = omega (arith, c2-size);
        c3 = omega (arith, c3-size);
      }
