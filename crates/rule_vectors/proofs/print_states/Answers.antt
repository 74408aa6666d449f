-- `rule_vectors::print_states` meets its contract: bytes of at most 2 are runs of one second.
use Rattle.std.proofs.Common.{arith, ℕ, ◌≤◌, ◌<◌, ◌≡◌, ap, List, length, slice_index}
use Rattle.run_length.specs.Runs.{decoded, Whole}
use Rattle.run_length.specs.laws.RunsLaws.{singles}
use Rattle.rule_vectors.proofs.print_states.Goals as goal

single : (s : List ℕ) → ((k : ℕ) → k < length s → slice_index s k ≤ 2) → Whole s × (length (decoded 0 s) ≡ length s)
single s h = let runs = singles s (λ k b. omega (arith, h k b)) in (runs.0, ap length runs.1)

pub returns : goal.returns
returns g c e = single _ (λ k h. c.loop-state.invariant k (omega (arith, h, c.loop-state-test.false)))
