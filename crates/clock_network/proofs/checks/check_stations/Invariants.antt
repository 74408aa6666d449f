-- The loop of `clock_network::checks::check_stations`: what the stations from i on are refused for is what all are.
use Rattle.std.proofs.Common.{◌≡◌, take, drop}
use Rattle.clock_network.specs.Checks.{stations_checked}
use Rattle.clock_network.proofs.checks.check_stations.Given as goal

abbrev pub invariant-loop-i : goal.invariant-loop-i
invariant-loop-i l = let s = take l.fn.h.count l.fn.h.nodes in stations_checked l.i (drop l.i s) ≡ stations_checked 0 s
