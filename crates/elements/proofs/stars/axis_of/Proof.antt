-- `elements::stars::axis_of` meets its contract: of either body.
use mathlib.Core.Path.{sym, ap, ◌∙◌}
use borrow.Author.Rules.{rules}
use Rattle.elements.specs.Stars.{axis_of}
use Rattle.elements.proofs.stars.axis_of.Statement.{statement}
use Rattle.elements.proofs.stars.axis_of.Tie as tie

returns : tie.Need-returns-in-Sun
returns c = sym (ap axis_of c.in-Sun.is)

returns-2 : tie.Need-returns-in-Star
returns-2 c = c.axis.ensures ∙ sym (ap axis_of c.in-Star.is)

pub axis_of_spec : {M : Type 1} → statement M
axis_of_spec =
    tie.close (tie.spec (λ c. search rules) (λ c. search rules) (λ c κs. search rules) returns returns-2)
