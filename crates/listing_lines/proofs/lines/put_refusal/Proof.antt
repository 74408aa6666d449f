-- `listing_lines::lines::put_refusal` meets its contract: the word, the number and the place.
use Rattle.listing_lines.specs.laws.LineLaws.{put_refused}
use borrow.Author.Rules.{rules}
use Rattle.listing_lines.proofs.lines.put_refusal.Statement.{statement}
use Rattle.listing_lines.proofs.lines.put_refusal.Tie as tie

returns : tie.Need-returns
returns c = put_refused _ _ _ _ _ _ c.put_numbered.ensures

pub put_refusal_spec : {M : Type 1} → statement M
put_refusal_spec =
    tie.close (tie.spec (λ c κs. search rules) (λ c. search rules) returns)
