-- The loop of `network_text::stations::of_station`: the words before word k gave the first numbers of the row.
use Rattle.network_text.specs.laws.StationLaws.{Rowed}
use Rattle.network_text.proofs.stations.of_station.Given as goal

abbrev pub invariant-loop-k : goal.invariant-loop-k
invariant-loop-k l = Rowed l.s l.row l.at l.k
