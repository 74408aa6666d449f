-- The loop of `clock_network::strata::search`: what is known so far is right and small. Each turn gives one more place
-- its steps.
use Rattle.std.proofs.Common.{◌≡◌, length}
use Rattle.clock_network.specs.laws.Search.{Sound, Small, zeros}
use Rattle.clock_network.proofs.strata.search.Given as goal

abbrev pub invariant-loop-i : goal.invariant-loop-i
invariant-loop-i l = (length l.steps ≡ 64) × (Sound l.numbers l.clocks l.steps × Small l.steps)

abbrev pub decreases-loop-i : goal.decreases-loop-i
decreases-loop-i l = zeros l.steps
