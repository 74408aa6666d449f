-- Sine and cosine of any angle. Angles are in units of 10^-6 degree, sines and cosines of 10^-8.
use Rattle.std.specs.Prelude.{◌≡◌, cond, ℕ, zero, suc, ◌-◌, ◌%◌, ◌≤◌, ◌<◌, leb, ℤ, pos, negsuc, neg_ℤ, nat_abs}
use Rattle.sine.specs.FirstQuadrant.{first_quadrant}

-- "An angle is first reduced to 0 up to 360 degrees." An angle below 0 is -1 - n: with a turn added, 359,999,999 - n.
unfoldable pub reduced : ℤ → ℕ
reduced (pos n) = n % 360_000_000
reduced (negsuc n) = 359_999_999 - n % 360_000_000

-- "The cosine there is the sine of 90 degrees less the angle." "Above 90 degrees, the sine is the cosine of the angle
-- less 90 degrees, and the cosine is minus the sine of the angle less 90 degrees." The first argument is the number of
-- quarter turns that may still be taken off; where there is none, the angle is at most 90 degrees.
unfoldable mutual
  pub sineIn : ℕ → ℕ → ℤ
  sineIn zero a = first_quadrant a
  sineIn (suc n) a = cond (leb a 90_000_000) (first_quadrant a) (cosineIn n (a - 90_000_000))

  pub cosineIn : ℕ → ℕ → ℤ
  cosineIn zero a = first_quadrant (90_000_000 - a)
  cosineIn (suc n) a = cond (leb a 90_000_000) (first_quadrant (90_000_000 - a)) (neg_ℤ (sineIn n (a - 90_000_000)))

-- up to 360 degrees at most three quarter turns are taken off
unfoldable pub sine : ℤ → ℤ
sine z = sineIn 3 (reduced z)

unfoldable pub cosine : ℤ → ℤ
cosine z = cosineIn 3 (reduced z)

-- ---- what the functions promise

-- r is the angle z, reduced
pub record IsReduced (z : ℤ) (r : ℕ) : Type 0 where
  pub value : r ≡ reduced z
  pub below : r < 360_000_000

-- r is the sine of z, and at most 10^8 in size
pub record IsSine (z r : ℤ) : Type 0 where
  pub value : r ≡ sine z
  pub small : nat_abs r ≤ 100_000_000

-- r is the cosine of z, and at most 10^8 in size
pub record IsCosine (z r : ℤ) : Type 0 where
  pub value : r ≡ cosine z
  pub small : nat_abs r ≤ 100_000_000
