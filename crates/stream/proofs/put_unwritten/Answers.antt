-- `stream::put_unwritten` meets its contract: words and numbers, one after the other.
use Rattle.std.proofs.Common.{arith}
use Rattle.decimal_text.specs.laws.RowLaws.{joined}
use Rattle.stream.specs.Unwritten.{unwritten_line}
use Rattle.stream.proofs.put_unwritten.Goals as goal

pub returns : goal.returns
unfolding unwritten_line
returns c =
    joined (omega arith)
    (joined (omega arith) (joined (omega arith) (joined (omega arith) c.put_text-word.ensures c.put_number-number.ensures) c.put_text-middle.ensures) c.put_number-byte.ensures)
    c.put_text.ensures
