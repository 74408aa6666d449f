-- `clock_network::stations::numbers` meets its contract: the closure gives each node's number.
use Rattle.std.proofs.Common.{rules}
use Rattle.clock_network.specs.Held.{blank_node}
use Rattle.clock_network.specs.Nodes.{number_of}
use Rattle.clock_network.specs.laws.Copy.{mapped}
use Rattle.clock_network.proofs.stations.numbers.Goals as goal

pub returns : goal.returns
returns c = mapped number_of _ _ blank_node c.map.ensures.items c.requires (λ x y p q k. search rules)
