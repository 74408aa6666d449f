-- What a list's nodes say. Definitions only. Document 02, wish 10: "up to 64 station records in one list, each with
-- the number of the station whose clock it follows, 0 being the antenna".
use Rattle.std.specs.Prelude.{◌≡◌, ◌≤◌, List, map, length, take, ℤ}
use Rattle.clock_network.specs.declared.stations.Node.{Node}
use Rattle.clock_network.specs.declared.stations.Held.{Held}

abbrev pub number_of : Node → ℤ
number_of n = n.station.number

abbrev pub clock_of : Node → ℤ
clock_of n = n.clock

abbrev pub numbers_of : List Node → List ℤ
numbers_of l = map number_of l

abbrev pub clocks_of : List Node → List ℤ
clocks_of l = map clock_of l

-- the value holds the list, as far as it fits
pub record Holds (h : Held) (l : List Node) : Type 0 where
  pub room : length h.nodes ≡ 64
  pub count : h.count ≡ length l
  pub listed : length l ≤ 64 → take (length l) h.nodes ≡ l
