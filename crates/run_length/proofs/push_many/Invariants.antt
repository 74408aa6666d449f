-- With n - left seconds pushed, 3839 more are pushed; those that are left at the end.
use Rattle.std.proofs.Common.{◌-◌, ◌≤◌}
use Rattle.run_length.specs.Runs.{Pushed}
use Rattle.run_length.proofs.push_many.Given as goal

abbrev pub invariant-loop-left : goal.invariant-loop-left
invariant-loop-left l = (1 ≤ l.left) × (l.left ≤ l.n) × Pushed l.initial.runs l.initial.r l.pair (l.n - l.left) l.runs l.r

abbrev pub decreases-loop-left : goal.decreases-loop-left
decreases-loop-left l = l.left
