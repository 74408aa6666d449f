-- The whole-number polynomial of least squares for seven values at the hours -3 to 3. These are definitions; what makes them the right ones is
-- proved in `Least` (the exact polynomial has the least sum of squares) and `Rounding` (this one is within 7½ or 4½ units of it).
use Rattle.std.specs.Prelude.{ℤ, pos, ◌+ℤ◌, ◌-ℤ◌, ◌*ℤ◌}
use Rattle.rounding.specs.Near.{near}
use Rattle.elements.specs.declared.Cubic.{Cubic}
use Rattle.elements.specs.declared.Quadratic.{Quadratic}
use Rattle.element_fits.specs.declared.least_squares.Hourly.{Hourly}

-- ---- sums of the values times 1, t, t² - 4 and (t³ - 7t)/6: at the seven hours each of these four is perpendicular
-- to the others
unfoldable pub sum : Hourly → ℤ
sum v = v.v0 +ℤ v.v1 +ℤ v.v2 +ℤ v.v3 +ℤ v.v4 +ℤ v.v5 +ℤ v.v6

-- (-3, -2, -1, 0, 1, 2, 3)
unfoldable pub first : Hourly → ℤ
first v = pos 3 *ℤ (v.v6 -ℤ v.v0) +ℤ pos 2 *ℤ (v.v5 -ℤ v.v1) +ℤ (v.v4 -ℤ v.v2)

-- (5, 0, -3, -4, -3, 0, 5)
unfoldable pub second : Hourly → ℤ
second v = pos 5 *ℤ (v.v0 +ℤ v.v6) -ℤ pos 3 *ℤ (v.v2 +ℤ v.v4) -ℤ pos 4 *ℤ v.v3

-- (-1, 1, 1, 0, -1, -1, 1)
unfoldable pub third : Hourly → ℤ
third v = (v.v6 -ℤ v.v0) -ℤ (v.v5 -ℤ v.v1) -ℤ (v.v4 -ℤ v.v2)

-- ---- coefficients from the highest down, each of what the higher ones leave: 36 is the sum of t³ (t³ - 7t)/6 over the hours, 84 that of
-- t² (t² - 4), 28 that of t², 7 that of 1; 196 is that of t t³, and 28 that of 1 t²
unfoldable pub cubic : Hourly → Cubic
cubic v =
    let c3 = near (third v) (pos 36) in
    let c2 = near (second v) (pos 84) in
    record {
      c0 = near (sum v -ℤ pos 28 *ℤ c2) (pos 7);
      c1 = near (first v -ℤ pos 196 *ℤ c3) (pos 28);
      c2 = c2;
      c3 = c3;
    }

unfoldable pub quadratic : Hourly → Quadratic
quadratic v =
    let c2 = near (second v) (pos 84) in
    record {
      c0 = near (sum v -ℤ pos 28 *ℤ c2) (pos 7);
      c1 = near (first v) (pos 28);
      c2 = c2;
    }
