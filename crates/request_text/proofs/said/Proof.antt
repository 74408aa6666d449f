-- `request_text::said` meets its contract: a comment is cut off, then the blanks before what is said.
use mathlib.Core.Path.{sym}
use lib.Seq.{length-take-le}
use Rattle.request_text.specs.laws.LineLaws.{said-is}
use borrow.Author.Rules.{rules}
use Rattle.request_text.proofs.said.Statement.{statement}
use Rattle.request_text.proofs.said.Tie as tie

slice-aggregate-content : tie.Need-slice_bounds-content-end
slice-aggregate-content c = sym (length-take-le _ _ c.run-length.ensures.1)

returns : tie.Need-returns
returns c = said-is _ _ _ c.run-length.ensures.0 c.run-gap.ensures.0

pub said_spec : {M : Type 1} → statement M
said_spec =
    tie.close
    (tie.spec (λ c κs. search rules) slice-aggregate-content (λ c κs. search rules) (λ c. search rules)
    (λ c. search rules) (λ c. search rules) returns)
