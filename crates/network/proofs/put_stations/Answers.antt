-- `network::put_stations` meets its contract: a line for each station, one after the other.
use Rattle.std.proofs.Common.{ap, arith, rules, ◌≡◌, take, get_or, to_z, of_z}
use Rattle.std.specs.Int.{w64}
use Rattle.clock_network.specs.Held.{blank_node}
use Rattle.decimal_text.specs.laws.RowLaws.{rows_start, rows-turn, rows_end, put_as}
use Rattle.network.specs.laws.PrintedLaws.{lines-all}
use Rattle.network.specs.Printed.{station_line}
use Rattle.network.proofs.put_stations.Goals as goal

pub loop-k-init : goal.loop-k-init
loop-k-init c = rows_start _ _ _ _ (omega arith) (omega arith)

pub loop-k-preserved : goal.loop-k-preserved
loop-k-preserved c =
    let number = (get_or (take c.args.h.count c.args.h.nodes) c.loop-k.k blank_node).station.number in
    let same : to_z w64 (of_z w64 number) ≡ number = search rules in
    rows-turn _ _ _ _ _ _ _ c.loop-k.invariant (omega arith) _ _
    (put_as _ _ _ _ _ _ (ap (λ z. station_line z (get_or c.args.steps.now c.loop-k.k 0)) same) c.put_station-at.ensures)

pub returns : goal.returns
returns c =
    put_as _ _ _ _ _ _ (lines-all c.args.h.nodes c.args.h.count c.args.steps.now (omega arith))
    (rows_end _ _ _ _ _ _ _ c.loop-k.invariant (omega arith))
