-- `elements::stars::check_body` meets its contract: of either body.
use mathlib.Core.Path.{sym, ap, ◌∙◌}
use borrow.Author.Rules.{rules}
use Rattle.elements.specs.Stars.{body_checked}
use Rattle.elements.proofs.stars.check_body.Statement.{statement}
use Rattle.elements.proofs.stars.check_body.Tie as tie

returns : tie.Need-returns-in-Sun
returns c = c.check.ensures ∙ sym (ap body_checked c.in-Sun.is)

returns-2 : tie.Need-returns-in-Star
returns-2 c = c.check-in-Star.ensures ∙ sym (ap body_checked c.in-Star.is)

pub check_body_spec : {M : Type 1} → statement M
check_body_spec =
    tie.close
    (tie.spec (λ c. search rules) (λ c κs. search rules) (λ c. search rules) (λ c κs. search rules) returns
    returns-2)
