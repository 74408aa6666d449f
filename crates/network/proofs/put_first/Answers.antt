-- `network::put_first` meets its contract: the station; then the second and the Sun, where one is named.
use Rattle.std.proofs.Common.{arith, refl}
use Rattle.decimal_text.specs.laws.RowLaws.{joined, put_as}
use Rattle.network.specs.laws.PrintedLaws.{first-none, first_some}
use Rattle.network.proofs.put_first.Goals as goal

pub returns-then-tos-best : goal.returns-then-tos-best
returns-then-tos-best c =
    put_as _ _ _ _ _ _ (first-none _ _ _ _ _ c.earliest-best.ensures c.if-tos-best.true)
    (joined (omega arith) (joined (omega arith) c.put_text-word.ensures c.put_number-end.ensures) c.put_byte.ensures)

pub returns : goal.returns
returns c =
    put_as _ _ _ _ _ _ (first_some _ _ _ _ _ c.earliest-best.ensures (omega (arith, c.if-tos-best.false)) _ _ refl refl)
    (joined (omega arith) (joined (omega arith) c.put_text-word.ensures c.put_number-end.ensures) c.put_to.ensures)
