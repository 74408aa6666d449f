-- `listing_lines::clock::put_date` meets its contract: its parts, one after the other.
use native.Mathlib.Omega.{arith}
use Rattle.decimal_text.specs.laws.RowLaws.{joined}
use borrow.Author.Rules.{rules}
use Rattle.listing_lines.proofs.clock.put_date.Statement.{statement}
use Rattle.listing_lines.proofs.clock.put_date.Tie as tie

returns : tie.Need-returns
returns c = joined (omega arith) (joined (omega arith) (joined (omega arith) (joined (omega arith) (joined (omega arith) c.put_two-century.ensures c.put_two-years.ensures) c.put_byte-dash.ensures) c.put_two-months.ensures) c.put_byte-second.ensures) c.put_two.ensures

pub put_date_spec : {M : Type 1} → statement M
put_date_spec =
    tie.close
    (tie.spec (λ c κs. search rules) (λ c κs. search rules) (λ c κs. search rules) (λ c κs. search rules)
    (λ c κs. search rules) (λ c κs. search rules) (λ c. search rules) returns)
