-- the lines before byte `from` are read, and their parts put
use Rattle.std.proofs.Common.{length, ◌-◌, ◌+◌}
use Rattle.table_elements.specs.PrintedLaws.{Reading}
use Rattle.table_elements.proofs.put_tables.Given as goal

abbrev pub invariant-loop-from : goal.invariant-loop-from
invariant-loop-from l = Reading l.text l.fn.out l.out l.output l.numbers l.row l.line l.from

abbrev pub decreases-loop-from : goal.decreases-loop-from
decreases-loop-from l = length l.text + 1 - l.from
