-- `mend::put_notes` meets its contract: a line for each note, one after the other.
use Rattle.std.proofs.Common.{arith}
use Rattle.decimal_text.specs.laws.RowLaws.{rows_start, parts-turn}
use Rattle.mend.specs.Printed.{note_line}
use Rattle.mend.proofs.put_notes.Goals as goal

pub loop-k-init : goal.loop-k-init
loop-k-init c = rows_start _ _ _ _ (omega arith) (omega arith)

pub loop-k-preserved : goal.loop-k-preserved
loop-k-preserved c = parts-turn 16 note_line _ _ _ _ _ _ _ c.loop-k.invariant c.loop-k-test.true _ _ c.put_note-at.ensures
