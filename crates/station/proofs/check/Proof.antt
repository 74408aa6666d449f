-- `station::check` meets its contract: the numbers are compared with the two tables.
use borrow.Author.Rules.{rules}
use Rattle.sheet_types.specs.laws.RefusalLaws.{ranges_listed}
use Rattle.station.specs.Station.{ranges, range_of}
use Rattle.station.proofs.check.Statement.{statement}
use Rattle.station.proofs.check.Tie as tie

returns : tie.Need-returns
unfolding range_of ranges
returns c = ranges_listed 3 _ _ c.of_ranges.ensures c.listed-values.ensures

pub check_spec : {M : Type 1} → statement M
check_spec =
    tie.close
    (tie.spec (λ c κs. search rules) (λ c. search rules) (λ c. search rules) (λ c. search rules)
    (λ c κs. search rules) returns)
