-- The loop of `clock_network::strata::first_stray`: no place before i is stray.
use Rattle.std.proofs.Common.{length}
use Rattle.clock_network.specs.laws.First.{Searched}
use Rattle.clock_network.specs.Steps.{Stray}
use Rattle.clock_network.proofs.strata.first_stray.Given as goal

abbrev pub invariant-loop-i : goal.invariant-loop-i
invariant-loop-i l = Searched (Stray l.numbers l.clocks) (length l.numbers) l.i
