-- `listing_lines::times_of_day::put_seconds` meets its contract: its parts, one after the other.
use native.Mathlib.Omega.{arith}
use Rattle.decimal_text.specs.laws.RowLaws.{joined}
use Rattle.listing_lines.specs.Times.{seconds_text}
use borrow.Author.Rules.{rules}
use Rattle.listing_lines.proofs.times_of_day.put_seconds.Statement.{statement}
use Rattle.listing_lines.proofs.times_of_day.put_seconds.Tie as tie

returns : tie.Need-returns
unfolding seconds_text
returns c = joined (omega arith) (joined (omega arith) (joined (omega arith) (joined (omega arith) c.put_two-hours.ensures c.put_byte-colon.ensures) c.put_two-minutes.ensures) c.put_byte-second.ensures) c.put_two.ensures

pub put_seconds_spec : {M : Type 1} → statement M
put_seconds_spec =
    tie.close
    (tie.spec (λ c κs. search rules) (λ c κs. search rules) (λ c κs. search rules) (λ c κs. search rules)
    (λ c κs. search rules) (λ c. search rules) returns)
