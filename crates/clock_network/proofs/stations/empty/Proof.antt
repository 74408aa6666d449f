-- `clock_network::stations::empty` meets its contract: 64 times the blank node.
use borrow.Author.Rules.{rules}
use mathlib.Core.Path.{ap}
use Prim.Native.Nat.{ℕ}
use lib.ListN.{replicate}
use Rattle.clock_network.specs.declared.stations.Node.{Node}
use Rattle.clock_network.specs.declared.stations.Held.{Held}
use Rattle.clock_network.proofs.stations.empty.Statement.{statement}
use Rattle.clock_network.proofs.stations.empty.Tie as tie

-- space for 64 nodes, each of them b, of a list of n
abbrev filled : ℕ → Node → Held
filled n b = record { nodes = replicate 64 b; count = n }

returns : tie.Need-returns
returns c = ap (filled c.args.n) c.blank-b.ensures

pub empty_spec : {M : Type 1} → statement M
empty_spec = tie.close (tie.spec (λ c κs. search rules) returns)
