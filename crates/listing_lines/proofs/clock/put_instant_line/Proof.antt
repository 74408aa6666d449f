-- `listing_lines::clock::put_instant_line` meets its contract: its name, then the instant.
use native.Mathlib.Omega.{arith}
use Rattle.decimal_text.specs.laws.RowLaws.{joined}
use borrow.Author.Rules.{rules}
use Rattle.listing_lines.proofs.clock.put_instant_line.Statement.{statement}
use Rattle.listing_lines.proofs.clock.put_instant_line.Tie as tie

returns : tie.Need-returns
returns c = joined (omega arith) c.put_text-next.ensures c.put_instant.ensures

pub put_instant_line_spec : {M : Type 1} → statement M
put_instant_line_spec =
    tie.close
    (tie.spec (λ c κs. search rules) (λ c κs. search rules) (λ c. search rules) returns)
