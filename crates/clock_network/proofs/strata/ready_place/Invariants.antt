-- The loop of `clock_network::strata::ready_place`: the steps of no place before i can be determined yet.
use Rattle.std.proofs.Common.{ℕ, ◌≡◌, ◌<◌, get_or}
use Rattle.clock_network.specs.laws.Search.{Untold}
use Rattle.clock_network.proofs.strata.ready_place.Given as goal

abbrev pub invariant-loop-i : goal.invariant-loop-i
invariant-loop-i l = (k : ℕ) → k < l.i → get_or l.steps k 0 ≡ 0 → Untold l.numbers l.clocks l.steps k
