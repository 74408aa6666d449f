-- the lines of the notes before the k-th are put
use Rattle.std.proofs.Common.{length, ◌/◌}
use Rattle.decimal_text.specs.Rows.{part}
use Rattle.decimal_text.specs.laws.RowLaws.{Rows}
use Rattle.mend.specs.Printed.{note_line}
use Rattle.mend.proofs.put_notes.Given as goal

abbrev pub invariant-loop-k : goal.invariant-loop-k
invariant-loop-k l = Rows (λ j. note_line (part 16 l.notes j)) (length l.notes / 16) l.fn.out 0 l.out l.at l.k
