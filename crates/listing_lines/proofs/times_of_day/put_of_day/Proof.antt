-- `listing_lines::times_of_day::put_of_day` meets its contract: its parts, one after the other.
use native.Mathlib.Omega.{arith}
use Rattle.decimal_text.specs.laws.RowLaws.{joined}
use Rattle.listing_lines.specs.Times.{of_day_text}
use borrow.Author.Rules.{rules}
use Rattle.listing_lines.proofs.times_of_day.put_of_day.Statement.{statement}
use Rattle.listing_lines.proofs.times_of_day.put_of_day.Tie as tie

returns : tie.Need-returns
unfolding of_day_text
returns c = joined (omega arith) (joined (omega arith) c.put_seconds-seconds.ensures c.put_byte-point.ensures) c.put_digit.ensures

pub put_of_day_spec : {M : Type 1} → statement M
put_of_day_spec =
    tie.close
    (tie.spec (λ c κs. search rules) (λ c κs. search rules) (λ c κs. search rules) (λ c. search rules)
    returns)
