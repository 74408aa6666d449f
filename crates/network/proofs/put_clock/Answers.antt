-- `network::put_clock` meets its contract: the number, with the words about it.
use Rattle.std.proofs.Common.{arith}
use Rattle.decimal_text.specs.laws.RowLaws.{joined}
use Rattle.network.specs.Printed.{clock_text}
use Rattle.network.proofs.put_clock.Goals as goal

pub returns : goal.returns
unfolding clock_text
returns c = joined (omega arith) (joined (omega arith) c.put_text-number.ensures c.put_number-wrong.ensures) c.put_text.ensures
