-- The loop of `networks::sight::first_tos`: the first i places have theirs.
use Rattle.std.proofs.Common.{◌≡◌, length, take}
use Rattle.networks.specs.Network.{tos_of}
use Rattle.networks.proofs.sight.first_tos.Given as goal

abbrev pub invariant-loop-i : goal.invariant-loop-i
invariant-loop-i l = (length l.tos ≡ 64) × (take l.i l.tos ≡ take l.i (tos_of l.e (take l.n l.fn.h.nodes)))
