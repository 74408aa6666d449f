-- the words before byte `at` are taken, and their numbers stored
use Rattle.std.proofs.Common.{length, ◌-◌}
use Rattle.table_elements.specs.ReadingLaws.{Taking}
use Rattle.table_elements.proofs.typed_rows.read_row.Given as goal

abbrev pub invariant-loop-content : goal.invariant-loop-content
invariant-loop-content l = Taking l.line l.content l.row l.at l.column

abbrev pub decreases-loop-content : goal.decreases-loop-content
decreases-loop-content l = length l.content - l.at
