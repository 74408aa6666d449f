-- `streams::put_stop` meets its contract: the parts of the line, one after the other.
use native.Mathlib.Omega.{arith}
use Rattle.decimal_text.specs.laws.RowLaws.{joined}
use Rattle.streams.specs.Streams.{stop_line}
use borrow.Author.Rules.{rules}
use Rattle.streams.proofs.put_stop.Statement.{statement}
use Rattle.streams.proofs.put_stop.Tie as tie

returns : tie.Need-returns
unfolding stop_line
returns c =
    joined (omega arith) (joined (omega arith) c.put_text-word.ensures c.put_number-number.ensures)
    c.put_text.ensures

pub put_stop_spec : {M : Type 1} → statement M
put_stop_spec =
    tie.close
    (tie.spec (λ c κs. search rules) (λ c κs. search rules) (λ c κs. search rules) (λ c. search rules) returns)
