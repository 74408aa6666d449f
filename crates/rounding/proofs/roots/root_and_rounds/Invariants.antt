-- With i rounds to come the state of the loop is what the definition says.
use Rattle.rounding.specs.Rounds.{Holds}
use Rattle.rounding.proofs.roots.root_and_rounds.Given as goal

abbrev pub invariant-loop-i : goal.invariant-loop-i
invariant-loop-i l = Holds l.n l.i l.held.root l.held.rest
