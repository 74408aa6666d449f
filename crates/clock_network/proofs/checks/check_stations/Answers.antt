-- `clock_network::checks::check_stations` meets its contract: the place of a refusal is a field, and is small.
use Rattle.std.proofs.Common.{arith, sym, ◌∙◌}
use Rattle.station.specs.laws.StationLaws.{field_small}
use Rattle.clock_network.proofs.checks.check_stations.Goals as goal

pub map_err-requires : goal.map_err-requires
map_err-requires c e s =
    let small = field_small _ _ (sym c.check.ensures ∙ s) in
    (λ v. record { fits = omega (arith, small, c.requires.0) }, λ v f. record { fits = omega (arith, small, c.requires.0) })
