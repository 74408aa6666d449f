use Rattle.std.proofs.Common.{rules}
use Rattle.program_io.proofs.Filled.{consumes_more}
use Rattle.program_io.proofs.read_input.Goals as goal

pub loop-done-preserved : goal.loop-done-preserved
loop-done-preserved g c =
    (search rules, search rules, consumes_more _ _ _ _ _ _ _ _ c.loop-done.invariant.0 c.in_ok-got.ensures.bound.0 c.loop-done.invariant.2 c.in_ok-got.ensures.bytes.0)
