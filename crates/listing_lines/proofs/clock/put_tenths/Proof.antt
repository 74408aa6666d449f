-- `listing_lines::clock::put_tenths` meets its contract: its parts, one after the other.
use native.Mathlib.Omega.{arith}
use Rattle.decimal_text.specs.laws.RowLaws.{joined}
use Rattle.listing_lines.specs.Clock.{tenths_text}
use borrow.Author.Rules.{rules}
use Rattle.listing_lines.proofs.clock.put_tenths.Statement.{statement}
use Rattle.listing_lines.proofs.clock.put_tenths.Tie as tie

returns : tie.Need-returns
unfolding tenths_text
returns c =
    let point = c.before.before.before.before in
    joined (omega arith)
    (joined (omega arith) point.put_number-point.ensures point.put_byte-tenth.ensures)
    c.put_digit.ensures

pub put_tenths_spec : {M : Type 1} → statement M
put_tenths_spec = tie.close (tie.spec (λ c κs. search rules) (λ c κs. search rules) (λ c κs. search rules) (λ c. search rules) returns)
