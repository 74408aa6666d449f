-- The list as a value: 64 places and the list's own length. Definitions only.
use Rattle.std.specs.Prelude.{pos, ℕ, zero, suc, Bool, true, false, List, ltb, length, get_or, set, replicate}
use Rattle.station.specs.declared.Station.{Station}
use Rattle.clock_network.specs.declared.stations.Node.{Node}
use Rattle.clock_network.specs.declared.stations.Held.{Held}

abbrev pub blank_station : Station
blank_station = record { number = pos 0; latitude = pos 0; longitude = pos 0; height = pos 0; deltat = pos 0 }

abbrev pub blank_node : Node
blank_node = record { station = blank_station; clock = pos 0 }

abbrev pub blank_nodes : List Node
blank_nodes = replicate 64 blank_node

abbrev pub pick : Bool → ℕ → ℕ → ℕ
pick true a b = a
pick false a b = b

-- n, and 64 where n is more
abbrev pub least64 : ℕ → ℕ
least64 n = pick (ltb n 64) n 64

-- space for 64 nodes of a list of n
abbrev pub empty_of : ℕ → Held
empty_of n = record { nodes = blank_nodes; count = n }

abbrev pub put_of : Held → ℕ → Node → Held
put_of h i n = record { nodes = set h.nodes i n; count = h.count }

-- the first i nodes of l in 64 places, the other places blank, and l's length
unfoldable pub held_of : List Node → ℕ → Held
held_of l zero = empty_of (length l)
held_of l (suc i) = put_of (held_of l i) i (get_or l i blank_node)
