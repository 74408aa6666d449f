-- `request_text::beside::number_in` meets its contract: a line that names the instant or TAI-UTC gives nothing,
-- any other what it says.
use mathlib.Core.Path.{sym, ◌∙◌}
use Rattle.request_text.specs.laws.LineLaws.{number-none, number-said}
use borrow.Author.Rules.{rules}
use Rattle.request_text.proofs.beside.number_in.Statement.{statement}
use Rattle.request_text.proofs.beside.number_in.Tie as tie

returns : tie.Need-returns-then-names_clock
returns c = number-none _ _ (sym c.names_clock.ensures ∙ c.if-names_clock.true)

returns-2 : tie.Need-returns
returns-2 c = c.meaning.ensures ∙ number-said _ _ (sym c.names_clock.ensures ∙ c.if-names_clock.false)

pub number_in_spec : {M : Type 1} → statement M
number_in_spec = tie.close (tie.spec (λ c κs. search rules) returns (λ c κs. search rules) returns-2)
