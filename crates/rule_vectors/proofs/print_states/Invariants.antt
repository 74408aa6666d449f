-- each byte before the index is at most 2
use Rattle.std.proofs.Common.{◌≤◌, ◌<◌, ℕ, slice_index}
use Rattle.rule_vectors.proofs.print_states.Given as goal

abbrev pub invariant-loop-state : goal.invariant-loop-state
invariant-loop-state g l = (k : ℕ) → k < l.state-index → slice_index l.bytes k ≤ 2
