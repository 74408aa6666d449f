-- `float_requests::survey::handed::survey` meets its contract: the shape, then the survey.
use Rattle.std.specs.Prelude.{Ok}
use mathlib.Core.Path.{sym, ap, ◌∙◌}
use Rattle.float_requests.proofs.laws.HandedLaws.{not-22, not-7, not-marked, of-shape}
use borrow.Author.Rules.{rules}
use Rattle.float_requests.proofs.survey.handed.survey.Statement.{statement}
use Rattle.float_requests.proofs.survey.handed.survey.Tie as tie

returns : tie.Need-returns-then-elements-ne22
returns c =
    let a = c.args in
    c.not_of_shape.ensures ∙ sym (not-22 a.elements.now a.longitude a.hours a.rest.now c.if-elements-ne22.true)

returns-2 : tie.Need-returns-then-rest-ne7
returns-2 c =
    let e = c.before.before in
    let a = e.args in
    c.not_of_shape-then-rest-ne7.ensures ∙ sym (not-7 a.elements.now a.longitude a.hours a.rest.now e.if-elements-ne22.false c.if-rest-ne7.true)

returns-3 : tie.Need-returns-then-hours-gt1
returns-3 c =
    let f = c.before.before in
    let e = f.before in
    let a = e.args in
    c.not_of_shape-then-hours-gt1.ensures ∙ sym (not-marked a.elements.now a.longitude a.hours a.rest.now e.if-elements-ne22.false f.if-rest-ne7.false c.if-hours-gt1.true)

returns-4 : tie.Need-returns
returns-4 c =
    let f = c.before.before in
    let e = f.before in
    let a = e.args in
    ap Ok c.survey_of-s.ensures
    ∙ sym (of-shape a.elements.now a.longitude a.hours a.rest.now e.if-elements-ne22.false f.if-rest-ne7.false c.if-hours-gt1.false)

pub survey_spec : {M : Type 1} → statement M
survey_spec =
    tie.close
    (tie.spec (λ c κs. search rules) returns (λ c κs. search rules) returns-2 (λ c κs. search rules) returns-3
    (λ c κs. search rules) returns-4)
