-- `float_requests::survey::handed::survey_of` meets its contract: each number read back from its bits.
use Rattle.rounding.specs.laws.Code.{read_result}
use Rattle.float_requests.specs.Handed.{number}
use Rattle.float_requests.proofs.laws.HandedLaws.{by_parts}
use borrow.Author.Rules.{rules}
use Rattle.float_requests.proofs.survey.handed.survey_of.Statement.{statement}
use Rattle.float_requests.proofs.survey.handed.survey_of.Tie as tie

returns : tie.Need-returns
returns c =
    let made = c.before.before.before.before.before.before.before in
    let a = made.args in
    let rest = a.rest.now in
    by_parts a.elements.now a.longitude a.hours rest made.from_doubles-elements.ensures made.marked-longitude.ensures
    (read_result (number rest 0) c.number-1.given) (read_result (number rest 1) c.latitude-1.given)
    (read_result (number rest 2) c.height-1.given) (read_result (number rest 3) c.deltat-1.given)
    (read_result (number rest 4) c.first-1.given) (read_result (number rest 5) c.last-1.given) (read_result (number rest 6) c.guard-1.given)

pub survey_of_spec : {M : Type 1} → statement M
survey_of_spec =
    tie.close
    (tie.spec (λ c κs. search rules) (λ c κs. search rules) (λ c. search rules) (λ c. search rules)
    (λ c. search rules) (λ c. search rules) (λ c. search rules) (λ c. search rules) (λ c. search rules)
    returns)
