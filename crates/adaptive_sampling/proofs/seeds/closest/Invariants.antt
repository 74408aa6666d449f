use Rattle.std.proofs.Common.{◌<◌}
use Rattle.adaptive_sampling.proofs.seeds.closest.Given as goal

abbrev pub invariant-loop-k : goal.invariant-loop-k
invariant-loop-k l = l.found < 5
