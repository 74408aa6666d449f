-- `request_text::shapes::names_radius` meets its contract: what the line says is asked for the name.
use mathlib.Core.Path.{ap, ◌∙◌}
use Rattle.request_format.specs.Rows.{letters}
use Rattle.request_text.specs.Names.{named}
use borrow.Author.Rules.{rules}
use Rattle.request_text.proofs.shapes.names_radius.Statement.{statement}
use Rattle.request_text.proofs.shapes.names_radius.Tie as tie

returns : tie.Need-returns
returns c = c.is_named.ensures ∙ ap (named (letters "radius")) c.said.ensures

pub names_radius_spec : {M : Type 1} → statement M
names_radius_spec =
    tie.close (tie.spec (λ c κs. search rules) (λ c κs. search rules) returns)
