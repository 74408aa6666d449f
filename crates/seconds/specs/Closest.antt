-- The closest of some seconds, counted from 0, by the square of each one's distance. Definitions only.
use Rattle.std.specs.Prelude.{cond, ℕ, zero, suc, ◌≤◌, ◌<◌, ℤ, ◌≤ℤ◌, ◌<ℤ◌}
use Rattle.std.specs.Int.Signed.{lt_z}

-- "*Closest* is the second of smallest M, the earliest of equals": c is that of the seconds 0 to n
pub record IsClosest (m : ℕ → ℤ) (n c : ℕ) : Type 0 where
  pub within : c ≤ n
  pub smallest : (k : ℕ) → k ≤ n → m c ≤ℤ m k
  pub earliest : (k : ℕ) → k < c → m c <ℤ m k

-- found second by second: ClosestLaws has that it is that one
unfoldable pub closest_to : (ℕ → ℤ) → ℕ → ℕ
closest_to m zero = 0
closest_to m (suc n) = cond (lt_z (m (suc n)) (m (closest_to m n))) (suc n) (closest_to m n)
