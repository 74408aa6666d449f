-- The loop of `clock_network::strata::earliest`: of the places before i, `best` is the first with the smallest number.
use Rattle.clock_network.specs.laws.Earliest.{SoFar}
use Rattle.clock_network.proofs.strata.earliest.Given as goal

abbrev pub invariant-loop-i : goal.invariant-loop-i
invariant-loop-i l = SoFar l.tos l.never l.i l.low l.best
