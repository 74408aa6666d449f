-- `mend::put_note` meets its contract: the two numbers of the note, with the words about them.
use Rattle.std.proofs.Common.{arith, ap}
use Rattle.decimal_text.specs.Decimals.{decimal}
use Rattle.decimal_text.specs.laws.RowLaws.{joined, put_as}
use Rattle.mend.specs.Printed.{dropped_line, note_line}
use Rattle.mend.proofs.put_note.Goals as goal

pub returns : goal.returns
unfolding note_line dropped_line
returns c =
    let first = put_as _ _ _ _ _ _ (ap decimal c.eight_at-start.ensures) c.put_number-first.ensures in
    let second = put_as _ _ _ _ _ _ (ap decimal c.eight_at-length.ensures) c.put_number-second.ensures in
    joined (omega arith) (joined (omega arith) (joined (omega arith) (joined (omega arith) c.put_text-word.ensures first) c.put_byte-space.ensures) second) c.put_byte.ensures
