-- The line of a station that is held, by its number and its seconds.
use Rattle.std.specs.Prelude.{ℕ, ◌<◌, List, ℤ, get_or, take}
use Rattle.std.proofs.Math.Path.{◌≡◌, sym, ap}
use Rattle.std.proofs.Common.{◌∙◌, get_or-take}
use Rattle.clock_network.specs.declared.stations.Node.{Node}
use Rattle.clock_network.specs.Held.{blank_node}
use Rattle.clock_network.specs.Nodes.{number_of}
use Rattle.network.specs.Printed.{station_line}
use Rattle.network.specs.laws.PrintedLaws.{line_at}

pub line-is : (nodes : List Node) (n : ℕ) (ss : List ℕ) (k : ℕ) (z : ℤ) (s : ℕ) → k < n → z ≡ number_of (get_or nodes k blank_node) → s ≡ get_or ss k 0
    → station_line z s ≡ line_at nodes n ss k
line-is nodes n ss k z s h e q =
    ap (λ x. station_line x s) (e ∙ ap number_of (sym (get_or-take n nodes k blank_node h))) ∙ ap (station_line (number_of (get_or (take n nodes) k blank_node))) q
