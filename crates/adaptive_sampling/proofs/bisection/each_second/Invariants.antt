-- The seconds before k are kept.
use Rattle.std.proofs.Common.{◌≡◌, ◌-◌, length}
use Rattle.adaptive_sampling.specs.Kept.{Kept}
use Rattle.adaptive_sampling.proofs.bisection.each_second.Given as goal

abbrev pub invariant-loop-k : goal.invariant-loop-k
invariant-loop-k l = record { long : length l.runs ≡ length l.fn.runs; kept : Kept l.o (l.k - 1) l.runs l.t }
