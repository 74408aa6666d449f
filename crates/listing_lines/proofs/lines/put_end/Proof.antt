-- `listing_lines::lines::put_end` meets its contract: each way out is the end by the test that led there.
use mathlib.Core.Path.{sym, ◌∙◌}
use native.Mathlib.Omega.{arith}
use Rattle.listing_lines.specs.laws.LineLaws.{put-no-end, put-line-end}
use borrow.Author.Rules.{rules}
use Rattle.listing_lines.proofs.lines.put_end.Statement.{statement}
use Rattle.listing_lines.proofs.lines.put_end.Tie as tie

returns : tie.Need-returns-then-is_end
returns c = put-no-end _ _ _ (sym c.is_end.ensures ∙ c.if-is_end.true) (omega arith)

returns-2 : tie.Need-returns
returns-2 c =
    let t = c.before.before.before.before in
    put-line-end _ _ _ (sym t.is_end.ensures ∙ t.if-is_end.false) _ _ c.put_byte.ensures

pub put_end_spec : {M : Type 1} → statement M
put_end_spec = tie.close (tie.spec (λ c κs. search rules) returns (λ c κs. search rules) (λ c. search rules) returns-2)
