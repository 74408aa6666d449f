-- What is true of an angle that is no whole number of millionths of a degree: z of them and w f-ths of one more.
-- Definitions only. sin(z + w) = sin z·cos w + cos z·sin w and cos(z + w) = cos z·cos w - sin z·sin w, with the series
-- of z and those of w.
use Rattle.std.specs.Prelude.{ℕ, ◌*◌, ℤ, pos, ◌+ℤ◌, ◌-ℤ◌, ◌*ℤ◌}
use Rattle.sine_accuracy.specs.Series.{denominator, common}
use Rattle.sine_accuracy.specs.TrueSine.{true_sine, true_cosine}

-- w f-ths of a millionth of a degree are x = w·π/(180,000,000·f): arc w over the denominator times f
unfoldable pub arc_of : ℤ → ℤ
arc_of w = w *ℤ pos 314_159_265_358_979_323_846

-- the two series of so small an angle, of at most 3 millionths, over `rest_common`: sin w = x and cos w = 1 - x²/2. The
-- next terms, x³/3! and x⁴/4!, are below 10^-22 and 10^-30, less than what is cut off the series of z
unfoldable pub rest_common : (f : ℕ) → ℕ
rest_common f = 2 * (denominator * f) * (denominator * f)

unfoldable pub sine_rest : (f : ℕ) → ℤ → ℤ
unfolding arc_of
sine_rest f w = pos (2 * (denominator * f)) *ℤ arc_of w

unfoldable pub cosine_rest : (f : ℕ) → ℤ → ℤ
unfolding rest_common arc_of
cosine_rest f w = pos (rest_common f) -ℤ arc_of w *ℤ arc_of w

-- the sine and the cosine of the angle, over `angle_common`
unfoldable pub angle_common : (f : ℕ) → ℕ
unfolding common rest_common
angle_common f = common * rest_common f

unfoldable pub sine_at : (f : ℕ) (z w : ℤ) → ℤ
sine_at f z w = true_sine z *ℤ cosine_rest f w +ℤ true_cosine z *ℤ sine_rest f w

unfoldable pub cosine_at : (f : ℕ) (z w : ℤ) → ℤ
cosine_at f z w = true_cosine z *ℤ cosine_rest f w -ℤ true_sine z *ℤ sine_rest f w
