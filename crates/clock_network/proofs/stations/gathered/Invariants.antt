-- The loop of `clock_network::stations::gathered`: the first i nodes of the list are in.
use Rattle.std.proofs.Common.{◌≡◌}
use Rattle.clock_network.specs.Held.{held_of}
use Rattle.clock_network.proofs.stations.gathered.Given as goal

abbrev pub invariant-loop-i : goal.invariant-loop-i
invariant-loop-i l = l.h ≡ held_of l.l l.i
