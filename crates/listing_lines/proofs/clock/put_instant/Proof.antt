-- `listing_lines::clock::put_instant` meets its contract: its parts, one after the other.
use native.Mathlib.Omega.{arith}
use Rattle.decimal_text.specs.laws.RowLaws.{joined}
use Rattle.listing_lines.specs.Clock.{instant_text}
use borrow.Author.Rules.{rules}
use Rattle.listing_lines.proofs.clock.put_instant.Statement.{statement}
use Rattle.listing_lines.proofs.clock.put_instant.Tie as tie

returns : tie.Need-returns
unfolding instant_text
returns c = joined (omega arith) (joined (omega arith) (joined (omega arith) (joined (omega arith) (joined (omega arith) (joined (omega arith) c.put_date-date.ensures c.put_byte-blank.ensures) c.put_seconds-seconds.ensures) c.put_byte-point.ensures) c.put_two-decimals.ensures) c.put_byte-last.ensures) c.put_typed_name.ensures

pub put_instant_spec : {M : Type 1} → statement M
put_instant_spec =
    tie.close
    (tie.spec (λ c κs. search rules) (λ c κs. search rules) (λ c κs. search rules) (λ c κs. search rules)
    (λ c κs. search rules) (λ c κs. search rules) (λ c κs. search rules) (λ c. search rules) returns)
