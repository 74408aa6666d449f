-- `network::put_named` meets its contract: the lines of the stations, then the first.
use Rattle.std.proofs.Common.{arith, ◌≤◌, length}
use Rattle.decimal_text.specs.laws.RowLaws.{joined, put_as}
use Rattle.network.specs.Printed.{named_text}
use Rattle.network.specs.laws.PrintedLaws.{first_as}
use Rattle.network.proofs.put_named.Goals as goal

pub returns : goal.returns
unfolding named_text
returns c =
    let n : c.args.h.count ≤ length c.first_tos-tos.result = omega (arith, c.first_tos-tos.ensures.0) in
    joined (omega arith) c.put_stations-next.ensures
    (put_as _ _ _ _ _ _ (first_as _ _ _ _ _ _ n c.first_tos-tos.ensures.1) c.put_first.ensures)
