-- `streams::put_line` meets its contract: the parts of the line, one after the other.
use native.Mathlib.Omega.{arith}
use Rattle.decimal_text.specs.laws.RowLaws.{joined}
use Rattle.streams.specs.Streams.{told_line}
use borrow.Author.Rules.{rules}
use Rattle.streams.proofs.put_line.Statement.{statement}
use Rattle.streams.proofs.put_line.Tie as tie

returns : tie.Need-returns
unfolding told_line
returns c =
    joined (omega arith)
    (joined (omega arith) (joined (omega arith) c.put_text-word.ensures c.put_number-counted.ensures) c.put_text-next.ensures)
    c.put_refused.ensures

pub put_line_spec : {M : Type 1} → statement M
put_line_spec =
    tie.close
    (tie.spec (λ c κs. search rules) (λ c κs. search rules) (λ c κs. search rules) (λ c κs. search rules) (λ c. search rules) returns)
