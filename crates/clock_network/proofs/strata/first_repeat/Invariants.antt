-- The loop of `clock_network::strata::first_repeat`: no place before i repeats a number.
use Rattle.std.proofs.Common.{length}
use Rattle.clock_network.specs.laws.First.{Searched}
use Rattle.clock_network.specs.Steps.{Repeats}
use Rattle.clock_network.proofs.strata.first_repeat.Given as goal

abbrev pub invariant-loop-i : goal.invariant-loop-i
invariant-loop-i l = Searched (Repeats l.numbers) (length l.numbers) l.i
