-- each step gives a cursor that the next one takes, further on in the window
use Rattle.std.proofs.Common.{length, ◌-◌}
use Rattle.run_length.specs.Runs.{decoded}
use Rattle.contacts.specs.Step.{At}
use Rattle.rule_vectors.proofs.print_entries.Given as goal

abbrev pub invariant-loop-found : goal.invariant-loop-found
invariant-loop-found g l = At 0 l.states l.cursor

abbrev pub decreases-loop-found : goal.decreases-loop-found
decreases-loop-found g l = length (decoded 0 l.states) - l.cursor.at
