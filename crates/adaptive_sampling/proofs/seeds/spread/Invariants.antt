-- The first k shadows are there.
use Rattle.std.proofs.Common.{◌≡◌, length}
use Rattle.adaptive_sampling.specs.Spread.{SpreadTo}
use Rattle.adaptive_sampling.proofs.seeds.spread.Given as goal

abbrev pub invariant-loop-k : goal.invariant-loop-k
invariant-loop-k l = record { five : length l.shadows ≡ 5; there : SpreadTo l.o l.n l.k l.shadows }
