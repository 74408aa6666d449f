-- What is true of a sine: the sine series and the cosine series (Series) at any angle of whole millionths
-- of a degree, and how far a number is from such a fraction. Definitions only.
use Rattle.std.specs.Prelude.{ℕ, zero, suc, ◌*◌, ◌/◌, ◌%◌, ◌≤◌, ℤ, pos, neg_ℤ, nat_abs, ◌-ℤ◌, ◌*ℤ◌}
use Rattle.sine.specs.Sine.{reduced}
use Rattle.sine_accuracy.specs.Series.{common, sine_series, cosine_series}

-- q quarter turns and m millionths of a degree: sin(90° + m) = cos m, sin(180° + m) = -sin m, sin(270° + m) = -cos m
unfoldable pub sine_quarter : ℕ → ℕ → ℤ
sine_quarter zero m = sine_series m
sine_quarter (suc zero) m = cosine_series m
sine_quarter (suc (suc zero)) m = neg_ℤ (sine_series m)
sine_quarter (suc (suc (suc q))) m = neg_ℤ (cosine_series m)

-- cos(90° + m) = -sin m, cos(180° + m) = -cos m, cos(270° + m) = sin m
unfoldable pub cosine_quarter : ℕ → ℕ → ℤ
cosine_quarter zero m = cosine_series m
cosine_quarter (suc zero) m = neg_ℤ (sine_series m)
cosine_quarter (suc (suc zero)) m = neg_ℤ (cosine_series m)
cosine_quarter (suc (suc (suc q))) m = sine_series m

-- of an angle reduced to 0 up to 360 degrees, over `common`: less than a quarter turn goes into the series
unfoldable pub true_sine : ℤ → ℤ
true_sine z = sine_quarter (reduced z / 90_000_000) (reduced z % 90_000_000)

unfoldable pub true_cosine : ℤ → ℤ
true_cosine z = cosine_quarter (reduced z / 90_000_000) (reduced z % 90_000_000)

-- ---- how far a number is from a fraction

-- x lies within two units of 10^8 times the fraction y over `common`: the distance is at most 2, times `common`
pub record TwoUnits (x y : ℤ) : Type 0 where
  pub two_units : nat_abs (pos common *ℤ x -ℤ pos 100_000_000 *ℤ y) ≤ 2 * common

-- within 1.79 units
pub record Within (x y : ℤ) : Type 0 where
  pub within : 100 * nat_abs (pos common *ℤ x -ℤ pos 100_000_000 *ℤ y) ≤ 179 * common
