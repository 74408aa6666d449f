-- `rule_vectors::print_station`: a station that `check` takes is one that `geocentric` takes.
use Rattle.std.proofs.Common.{sym, ◌∙◌}
use Rattle.sheet_types.specs.laws.RefusalLaws.{of_limits_within}
use Rattle.station.specs.Sizes.{station_sizes}
use Rattle.rule_vectors.proofs.print_station.Goals as goal

pub print_place-requires : goal.print_place-requires
print_place-requires g c = station_sizes _ (of_limits_within 3 _ (sym c.check-checked.ensures ∙ c.in-Ok.is))
