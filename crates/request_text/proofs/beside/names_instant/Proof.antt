-- `request_text::beside::names_instant` meets its contract: what the line says is asked for the name.
use mathlib.Core.Path.{ap, ◌∙◌}
use Rattle.request_format.specs.Rows.{letters}
use Rattle.request_text.specs.Names.{named}
use borrow.Author.Rules.{rules}
use Rattle.request_text.proofs.beside.names_instant.Statement.{statement}
use Rattle.request_text.proofs.beside.names_instant.Tie as tie

returns : tie.Need-returns
returns c = c.is_named.ensures ∙ ap (named (letters "instant")) c.said.ensures

pub names_instant_spec : {M : Type 1} → statement M
names_instant_spec =
    tie.close (tie.spec (λ c κs. search rules) (λ c κs. search rules) returns)
