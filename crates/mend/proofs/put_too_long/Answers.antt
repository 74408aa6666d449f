-- `mend::put_too_long` meets its contract: word, number and word, one after the other.
use Rattle.std.proofs.Common.{arith}
use Rattle.decimal_text.specs.laws.RowLaws.{joined}
use Rattle.mend.specs.Printed.{tooLong}
use Rattle.mend.proofs.put_too_long.Goals as goal

pub returns : goal.returns
unfolding tooLong
returns c = joined (omega arith) (joined (omega arith) c.put_text-word.ensures c.put_number-number.ensures) c.put_text.ensures
