-- `network::put_to` meets its contract: its parts, one after the other.
use Rattle.std.proofs.Common.{arith, ◌∙◌}
use Rattle.rounding.specs.laws.Code.{read_result}
use Rattle.decimal_text.specs.laws.RowLaws.{joined, put_as}
use Rattle.network.specs.laws.PrintedLaws.{to-line}
use Rattle.network.proofs.put_to.Goals as goal

pub returns : goal.returns
returns c =
    put_as _ _ _ _ _ _ (to-line _ _ _ _ _ (read_result c.second_of-second.result c.second_of-second.type_inv ∙ c.second_of-second.ensures) c.sun_at-altitude.ensures)
    (joined (omega arith) (joined (omega arith) c.put_filled-said.ensures c.put_sun-sun.ensures) c.put_byte.ensures)
