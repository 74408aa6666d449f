-- Low reaches, and, since the table rises, what does not reach at k does not from k on; so when high is next to low, low
-- is the largest that reaches. Each round brings them nearer.
use Rattle.std.proofs.Common.{◌-◌, ◌≤◌, ◌<◌, ◌*◌, ℕ}
use Rattle.sine_table.specs.Table.{S}
use Rattle.shadow.proofs.directions.quarter.Given as goal

-- low reaches, and nothing from high to 899 does
pub record Between (u v low high : ℕ) : Type 0 where
  pub apart : low < high
  pub high_le : high ≤ 900
  pub holds : v * S low ≤ u * S (900 - low)
  pub above : (j : ℕ) → high ≤ j → j ≤ 899 → u * S (900 - j) < v * S j

abbrev pub invariant-loop-low : goal.invariant-loop-low
invariant-loop-low l = Between l.u l.v l.low l.high

abbrev pub decreases-loop-low : goal.decreases-loop-low
decreases-loop-low l = l.high - l.low
