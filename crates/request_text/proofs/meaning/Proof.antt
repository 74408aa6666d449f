-- `request_text::meaning` meets its contract: nothing is said, or a name first.
use mathlib.Core.Path.{◌∙◌}
use Rattle.request_text.specs.laws.LineLaws.{meaning-none, meaning-some}
use borrow.Author.Rules.{rules}
use Rattle.request_text.proofs.meaning.Statement.{statement}
use Rattle.request_text.proofs.meaning.Tie as tie

returns : tie.Need-returns-then-words-eq0
returns c = meaning-none _ _ _ c.said-words.ensures c.if-words-eq0.true

returns-2 : tie.Need-returns
returns-2 c = c.of_name.ensures ∙ meaning-some _ _ _ c.said-words.ensures c.if-words-eq0.false

pub meaning_spec : {M : Type 1} → statement M
meaning_spec = tie.close (tie.spec (λ c κs. search rules) returns (λ c κs. search rules) returns-2)
