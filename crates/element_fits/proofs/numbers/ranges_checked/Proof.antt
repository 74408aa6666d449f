-- `element_fits::numbers::ranges_checked` meets its contract: the ten numbers are compared with the two tables.
use borrow.Author.Rules.{rules}
use Rattle.sheet_types.specs.laws.RefusalLaws.{ranges_listed}
use Rattle.element_fits.specs.Numbers.{given_ranges}
use Rattle.element_fits.proofs.numbers.ranges_checked.Statement.{statement}
use Rattle.element_fits.proofs.numbers.ranges_checked.Tie as tie

returns : tie.Need-returns
unfolding given_ranges
returns c = ranges_listed 21 _ _ c.of_ranges.ensures c.listed-values.ensures

pub ranges_checked_spec : {M : Type 1} → statement M
ranges_checked_spec = tie.close (tie.spec (λ c κs. search rules) (λ c. search rules) (λ c. search rules) (λ c. search rules) (λ c κs. search rules) returns)
