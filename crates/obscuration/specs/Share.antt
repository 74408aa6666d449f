-- How much of the Sun is gone: the covered share of its disc, document 02, wish 4. Definitions only.
use Rattle.std.specs.Prelude.{cond, ℕ, zero, suc, ◌+◌, ◌*◌, ◌/◌, ◌≤◌, leb, ℤ, pos, neg_ℤ, nat_abs, ◌+ℤ◌, ◌-ℤ◌, ◌*ℤ◌, ◌≤ℤ◌}
use Rattle.rounding.specs.Parts.{pos_p}
use Rattle.rounding.specs.Near.{floor_z}
use Rattle.rounding.specs.Root.{root}

-- half of z, "rounded down"
unfoldable pub half : ℤ → ℤ
half z = floor_z z (pos 2)

-- "Let r be (L1+L2)/2 and n be (L1-L2)/2, both rounded down, and m the root of M.": the radii of Sun and Moon, and
-- from centre to centre
abbrev pub rOf : (L1 L2 : ℤ) → ℤ
rOf L1 L2 = half (L1 +ℤ L2)

abbrev pub n_of : (L1 L2 : ℤ) → ℤ
n_of L1 L2 = half (L1 -ℤ L2)

abbrev pub m_of : (M : ℤ) → ℤ
m_of M = pos (root (nat_abs M))

-- "Cut the Sun into 1,000 strips across the line of centres, strip i, 0 to 999, at offset -r + floor((2i+1)·r/1000)."
abbrev pub strips : ℕ
strips = 1000

unfoldable pub offset : (r : ℤ) (i : ℕ) → ℤ
offset r i = neg_ℤ r +ℤ floor_z (pos (2 * i + 1) *ℤ r) (pos 1000)

-- the half-chord of a disc at x from its centre, root(radius² - x²), or 0 off the disc: pos_p z is z, and 0 if z is
-- negative
unfoldable pub chord : (radius x : ℤ) → ℕ
chord radius x = root (pos_p (radius *ℤ radius -ℤ x *ℤ x))

-- "Its half-chord is root(r² - offset²); the Moon's is root(n² - (offset-m)²), or 0 off the Moon."
unfoldable pub sun : (r : ℤ) (i : ℕ) → ℕ
sun r i = chord r (offset r i)

unfoldable pub moon : (r n m : ℤ) (i : ℕ) → ℕ
moon r n m i = chord n (offset r i -ℤ m)

abbrev pub lesser_of : (a b : ℕ) → ℕ
lesser_of a b = cond (leb a b) a b

unfoldable pub lesser : (r n m : ℤ) (i : ℕ) → ℕ
lesser r n m i = lesser_of (sun r i) (moon r n m i)

-- f 0 + f 1 + .. + f (k - 1)
unfoldable pub sum_of : (f : ℕ → ℕ) (k : ℕ) → ℕ
sum_of f zero = 0
sum_of f (suc k) = sum_of f k + f k

-- "The share is the sum of the lesser half-chords over the sum of the Sun's, in millionths, rounded down."
-- Within the sizes below the Sun's sum is above 0 (DiscLaws, sun_above)
unfoldable pub share_of : (r n m : ℤ) → ℕ
share_of r n m = 1000000 * sum_of (lesser r n m) strips / sum_of (sun r) strips

unfoldable pub share : (L1 L2 M : ℤ) → ℕ
share L1 L2 M = share_of (rOf L1 L2) (n_of L1 L2) (m_of M)

-- what L1, L2 and M of a request within its limits are (CoveredLaws, sizes-at)
pub record Sizes (L1 L2 M : ℤ) : Type 0 where
  pub low : pos 48860000 ≤ℤ L1
  pub high : L1 ≤ℤ pos 61140000
  pub central : nat_abs L2 ≤ 6140000
  pub square : pos 0 ≤ℤ M
  pub far : nat_abs M ≤ 1000000000000000000
