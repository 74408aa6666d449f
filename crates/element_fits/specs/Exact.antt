-- The exact polynomial of least squares, its coefficients as whole numbers over 252 (a cubic) and over 84 (a
-- quadratic), and values at an hour.
use Rattle.std.specs.Prelude.{ℤ, pos, negsuc, ◌+ℤ◌, ◌-ℤ◌, ◌*ℤ◌}
use Rattle.elements.specs.declared.Cubic.{Cubic}
use Rattle.elements.specs.declared.Quadratic.{Quadratic}
use Rattle.element_fits.specs.declared.least_squares.Hourly.{Hourly}
use Rattle.element_fits.specs.LeastSquares.{sum, first, second, third}

-- c0 + c1 t + c2 t² + c3 t³
abbrev pub cubic_at_hour : Cubic → ℤ → ℤ
cubic_at_hour c t = ((c.c3 *ℤ t +ℤ c.c2) *ℤ t +ℤ c.c1) *ℤ t +ℤ c.c0

abbrev pub quadratic_at_hour : Quadratic → ℤ → ℤ
quadratic_at_hour q t = (q.c2 *ℤ t +ℤ q.c1) *ℤ t +ℤ q.c0

-- 252 times third/36 (t³ - 7t) + second/84 (t² - 4) + first/28 t + sum/7
unfoldable pub exactCubic : Hourly → Cubic
exactCubic v =
    record {
      c0 = pos 36 *ℤ sum v -ℤ pos 12 *ℤ second v;
      c1 = pos 9 *ℤ first v -ℤ pos 49 *ℤ third v;
      c2 = pos 3 *ℤ second v;
      c3 = pos 7 *ℤ third v;
    }

-- 84 times second/84 (t² - 4) + first/28 t + sum/7
unfoldable pub exactQuadratic : Hourly → Quadratic
exactQuadratic v =
    record {
      c0 = pos 12 *ℤ sum v -ℤ pos 4 *ℤ second v;
      c1 = pos 3 *ℤ first v;
      c2 = second v;
    }

abbrev square : ℤ → ℤ
square z = z *ℤ z

-- the sum over the seven hours of the squares of k v - f at the hour
abbrev pub squares : (k : ℤ) → Hourly → (ℤ → ℤ) → ℤ
squares k v f =
    square (k *ℤ v.v0 -ℤ f (negsuc 2)) +ℤ square (k *ℤ v.v1 -ℤ f (negsuc 1)) +ℤ square (k *ℤ v.v2 -ℤ f (negsuc 0)) +ℤ square (k *ℤ v.v3 -ℤ f (pos 0))
    +ℤ square (k *ℤ v.v4 -ℤ f (pos 1)) +ℤ square (k *ℤ v.v5 -ℤ f (pos 2)) +ℤ square (k *ℤ v.v6 -ℤ f (pos 3))
