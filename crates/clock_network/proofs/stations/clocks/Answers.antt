-- `clock_network::stations::clocks` meets its contract: the closure gives each node's clock.
use Rattle.std.proofs.Common.{rules}
use Rattle.clock_network.specs.Held.{blank_node}
use Rattle.clock_network.specs.Nodes.{clock_of}
use Rattle.clock_network.specs.laws.Copy.{mapped}
use Rattle.clock_network.proofs.stations.clocks.Goals as goal

pub returns : goal.returns
returns c = mapped clock_of _ _ blank_node c.map.ensures.items c.requires (λ x y p q k. search rules)
