-- `listings::sky::altitude_of` meets its contract: each arm is a row of its definition.
use mathlib.Core.Path.{ap, ◌∙◌}
use Rattle.rounding.specs.laws.Code.{read_result}
use Rattle.listings.specs.Sky.{altitude_at}
use borrow.Author.Rules.{rules}
use Rattle.listings.proofs.sky.altitude_of.Statement.{statement}
use Rattle.listings.proofs.sky.altitude_of.Tie as tie

returns : tie.Need-returns-in-Moment
returns c =
    let s = c.second_of-t in
    rw c.in-Moment.is (c.altitude_at.ensures ∙ ap (altitude_at _) (read_result s.result s.type_inv ∙ s.ensures))

returns-2 : tie.Need-returns-in-Contact
returns-2 c =
    let s = c.second_of-t-in-Contact in
    rw c.in-Contact.is (c.altitude_at-in-Contact.ensures ∙ ap (altitude_at _) (read_result s.result s.type_inv ∙ s.ensures))

pub altitude_of_spec : {M : Type 1} → statement M
altitude_of_spec = tie.close (tie.spec (λ c. search rules) (λ c κs. search rules) (λ c κs. search rules) (λ c. search rules) (λ c κs. search rules) (λ c κs. search rules) returns returns-2)
