-- The altitude from its sine, over a table S of sines (entry k for k tenths of a degree, 0 to 900), and how an
-- altitude is rounded down. Definitions only.
use Rattle.std.specs.Prelude.{cond, ℕ, zero, suc, ◌≤◌, ◌<◌, leb, ℤ, pos, negsuc, neg_ℤ}
use Rattle.std.specs.Int.Signed.{lt_z}
use Rattle.rounding.specs.Units.{one}

-- kept within ±10^8, which the sine may pass by its rounding
unfoldable pub kept : ℤ → ℤ
kept z = cond (lt_z one z) one (cond (lt_z z (neg_ℤ one)) (neg_ℤ one) z)

-- "the largest k in 0..900 with S[k] ≤ a", for 900 any n: what is meant
pub record LargestUnder (S : ℕ → ℕ) (a n k : ℕ) : Type 0 where
  pub small : k ≤ n
  pub holds : S k ≤ a
  pub above : (j : ℕ) → k < j → j ≤ n → a < S j

-- that k, searched for from n down: AltitudeLaws, largest-is and largest-unique. 0 has it, since S[0] is 0
unfoldable pub largest_under : (S : ℕ → ℕ) (a : ℕ) → ℕ → ℕ
largest_under S a zero = 0
largest_under S a (suc n) = cond (leb (S (suc n)) a) (suc n) (largest_under S a n)

-- "the smallest k with S[k] ≥ b": what is meant
pub record SmallestOver (S : ℕ → ℕ) (b n k : ℕ) : Type 0 where
  pub small : k ≤ n
  pub holds : b ≤ S k
  pub below : (j : ℕ) → j < k → S j < b

-- that k, the first from 0 on: AltitudeLaws, smallest-is and smallest-unique. n where there is none before it
unfoldable pub smallest_over : (S : ℕ → ℕ) (b : ℕ) → ℕ → ℕ
smallest_over S b zero = 0
smallest_over S b (suc n) = cond (leb b (S (smallest_over S b n))) (smallest_over S b n) (suc n)

-- "altitude in tenths of a degree, rounded down: for a ≥ 0 the largest k in 0..900 with S[k] ≤ a; for a < 0 minus the
-- smallest k with S[k] ≥ -a"
unfoldable pub altitude : (S : ℕ → ℕ) → ℤ → ℤ
altitude S (pos a) = pos (largest_under S a 900)
altitude S (negsuc a) = neg_ℤ (pos (smallest_over S (suc a) 900))
