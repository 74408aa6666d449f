-- `network::put_station` meets its contract: the two numbers, with the words about them.
use Rattle.std.proofs.Common.{arith, refl}
use mir.Syntax.{w64}
use mir.ValLaws.{to_z-of_z}
use Rattle.decimal_text.specs.laws.RowLaws.{also, filled_as, joined, put_as}
use Rattle.network.specs.Printed.{station_line}
use Rattle.network.specs.laws.PrintedLaws.{station-filled}
use Rattle.network.proofs.put_station.Goals as goal

pub returns : goal.returns
unfolding station_line
returns c =
    let number = filled_as _ _ _ _ _ _ _ (also (to_z-of_z w64 c.args.number c.ranges.number) refl) c.put_filled-middle.ensures in
    joined (omega arith) (joined (omega arith) (put_as _ _ _ _ _ _ (station-filled _) number) c.put_number-end.ensures) c.put_byte.ensures
