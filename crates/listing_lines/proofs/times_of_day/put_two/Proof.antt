-- `listing_lines::times_of_day::put_two` meets its contract: the last digit of the tenth, then that of the number.
use native.Mathlib.Omega.{arith}
use Rattle.decimal_text.specs.laws.RowLaws.{joined}
use borrow.Author.Rules.{rules}
use Rattle.listing_lines.proofs.times_of_day.put_two.Statement.{statement}
use Rattle.listing_lines.proofs.times_of_day.put_two.Tie as tie

returns : tie.Need-returns
returns c = joined (omega arith) c.put_digit-next.ensures c.put_digit.ensures

pub put_two_spec : {M : Type 1} → statement M
put_two_spec = tie.close (tie.spec (λ c κs. search rules) (λ c κs. search rules) (λ c. search rules) returns)
