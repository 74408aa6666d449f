-- The computed tests: the sine series passes the test of each of the 901 nodes; the cosine series is nearly the sine
-- series of what the angle lacks of 90 degrees; the squares of both make nearly 1.
use Rattle.std.specs.Prelude.{Bool, List, [], ◌∷◌, ℕ, ◌-◌, ◌*◌, ◌≤◌, ◌<◌, T, leb, ℤ, pos, neg_ℤ}
use Rattle.std.proofs.Common.{leb→le}
use Rattle.rounding.specs.Near.{near}
use Rattle.sine_table.specs.Table.{factorial, numerator, denominator as tableDenominator, common as tableCommon, term as tableTerm, series, S}
use Rattle.sine_table.specs.laws.Computed.{up_to, at_up_to}
use Rattle.sine_accuracy.specs.Series.{denominator, common}
use Rattle.sine_accuracy.specs.laws.Lists.{carry, moved, turned, added, product, size}
use Rattle.sine_accuracy.specs.laws.Coefficients.{sines, cosines, complements}
use Rattle.sine_accuracy.specs.laws.Cell.{off, tight, low}
use Rattle.sine_accuracy.specs.laws.First.{node, from}

unfoldable passes : List ℤ → ℕ → Bool
unfolding near factorial numerator tableDenominator tableCommon tableTerm series S denominator common carry moved size off tight low node
passes ps k = node common (S k) (S (900 - k)) (from ps k)

all-sines : T (up_to (passes sines) 901)
unfolding passes sines
all-sines = tt

pub sine_nodes : (k : ℕ) → k < 901 → T (node common (S k) (S (900 - k)) (from sines k))
unfolding passes
sine_nodes = at_up_to (passes sines) 901 all-sines

-- ---- two more tests, of one list each

-- the cosine series in what the angle lacks of 90 degrees, less the sine series there
unfoldable pub gaps : List ℤ
unfolding added sines complements
gaps = added (neg_ℤ (pos 1)) sines complements

-- the squares of the two series, less 1
unfoldable pub circles : List ℤ
unfolding added product sines cosines common
circles = added (neg_ℤ (pos 1)) (pos (common * common) ∷ []) (added (pos 1) (product sines sines) (product cosines cosines))

unfoldable small_gaps : Bool
unfolding factorial denominator common carry moved turned size sines cosines complements gaps
small_gaps = leb (100 * (100_000_000 * size 90_000_000 gaps)) common

unfoldable small_circles : Bool
unfolding factorial denominator common size circles
small_circles = leb (10_000_000_000_000_000 * size 90_000_000 circles) (common * common)

-- up to 0.01 of a unit
pub gaps_small : 100 * (100_000_000 * size 90_000_000 gaps) ≤ common
unfolding small_gaps
gaps_small = leb→le (100 * (100_000_000 * size 90_000_000 gaps)) common tt

-- up to 10^-16
pub circles_small : 10_000_000_000_000_000 * size 90_000_000 circles ≤ common * common
unfolding small_circles
circles_small = leb→le (10_000_000_000_000_000 * size 90_000_000 circles) (common * common) tt
