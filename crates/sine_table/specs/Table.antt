-- Table S: the sine at each tenth of a degree from 0 to 90, in units of 10^-8. Document 01, "Sine table and sine rule".
use Rattle.std.specs.Prelude.{◌≡◌, List, ℕ, zero, suc, ◌-◌, ◌*◌, ◌/◌, ◌^◌, ◌≤◌, ◌<◌, ℤ, pos, nat_abs, ◌+ℤ◌, ◌-ℤ◌, ◌*ℤ◌, length, get_or}
use Rattle.rounding.specs.Near.{near}

-- ---- "the sine series, summed to the 21st power, at k·π/1800 with π taken as 3.14159265358979323846"

-- n!
unfoldable pub factorial : ℕ → ℕ
factorial zero = 1
factorial (suc n) = suc n * factorial n

-- k·π/1800 is numerator k over denominator
unfoldable pub numerator : ℕ → ℕ
numerator k = k * 314_159_265_358_979_323_846

unfoldable pub denominator : ℕ
denominator = 1800 * 10 ^ 20

-- "cleared of fractions this is a statement over whole numbers": each term below is a whole number over `common`
unfoldable pub common : ℕ
unfolding factorial denominator
common = factorial 21 * denominator ^ 21

-- x^n/n! at x = k·π/1800, over `common`
unfoldable pub term : ℕ → ℕ → ℤ
unfolding factorial numerator denominator
term k n = pos (numerator k ^ n * denominator ^ (21 - n) * (factorial 21 / factorial n))

-- x - x^3/3! + x^5/5! - .. + x^21/21!, over `common`
unfoldable pub series : ℕ → ℤ
unfolding term
series k =
    term k 1 -ℤ term k 3 +ℤ term k 5 -ℤ term k 7 +ℤ term k 9 -ℤ term k 11
    +ℤ term k 13 -ℤ term k 15 +ℤ term k 17 -ℤ term k 19 +ℤ term k 21

-- ---- the entries

-- "Entry k lies within half a unit of 10^8 times the sine series": twice the distance of x from it is at most 1, times
-- `common`
pub record HalfUnit (k x : ℕ) : Type 0 where
  pub half_unit : 2 * nat_abs (pos common *ℤ pos x -ℤ pos 100_000_000 *ℤ series k) ≤ common

-- Entry k as a number: the whole number nearest to 10^8 times the series, which is not below 0. This is document 01's
-- entry: for each k from 0 to 900 it is within half a unit, and no other number is (TableLaws, entry-rule and
-- entry-only).
unfoldable pub S : ℕ → ℕ
S k = nat_abs (near (pos 100_000_000 *ℤ series k) (pos common))

-- x is entry k: by the rule and as a number, and at most 10^8
pub record Entry (k x : ℕ) : Type 0 where
  pub rule : HalfUnit k x
  pub value : x ≡ S k
  pub small : x ≤ 100_000_000

-- "Table S has 901 entries, one for each tenth of a degree from 0 to 90": xs holds them, and may be longer
pub record Sines (xs : List ℕ) : Type 0 where
  pub size : 901 ≤ length xs
  pub entry : (k : ℕ) → k < 901 → Entry k (get_or xs k 0)
