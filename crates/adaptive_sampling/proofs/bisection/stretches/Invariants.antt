-- The seconds up to the k-th stop are kept.
use Rattle.std.proofs.Common.{◌≡◌, length}
use Rattle.adaptive_sampling.specs.Kept.{Kept}
use Rattle.adaptive_sampling.specs.Spread.{stop}
use Rattle.adaptive_sampling.proofs.bisection.stretches.Given as goal

abbrev pub invariant-loop-k : goal.invariant-loop-k
invariant-loop-k l = record { long : length l.runs ≡ length l.fn.runs; kept : Kept l.o (stop l.n l.k) l.runs l.t }
