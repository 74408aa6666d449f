-- `listing_lines::lines::put_refusal_line` meets its contract: the refusal, then the end of its line.
use native.Mathlib.Omega.{arith}
use Rattle.listing_lines.specs.laws.LineLaws.{put-refusal-end}
use borrow.Author.Rules.{rules}
use Rattle.listing_lines.proofs.lines.put_refusal_line.Statement.{statement}
use Rattle.listing_lines.proofs.lines.put_refusal_line.Tie as tie

returns : tie.Need-returns
returns c = put-refusal-end _ _ _ _ _ _ _ _ (omega arith) c.put_refusal-end.ensures c.put_byte.ensures

pub put_refusal_line_spec : {M : Type 1} → statement M
put_refusal_line_spec =
    tie.close (tie.spec (λ c κs. search rules) (λ c κs. search rules) (λ c. search rules) returns)
