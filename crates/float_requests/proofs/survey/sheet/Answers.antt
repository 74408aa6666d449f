-- `float_requests::survey::sheet` meets its contract: what is refused first, then the sheet of the request in whole
-- units.
use Rattle.std.proofs.Common.{◌≡◌, sym, ap, ◌∙◌, rules, Err}
use Rattle.requests.specs.Requests.{of_eclipse}
use Rattle.float_requests.specs.Survey.{survey_answer}
use Rattle.float_requests.proofs.laws.SurveyLaws.{of-refusal, of-request}
use Rattle.float_requests.proofs.survey.sheet.Goals as goal

pub check-requires : goal.check-requires
check-requires c = c.of_eclipse-o.ensures ∙ ap of_eclipse c.request_of.ensures

pub returns-in_err-check-clause-answer : goal.returns-in_err-check-clause-answer
returns-in_err-check-clause-answer c =
    let r : Err c.in_err-check.field-0.0 ≡ survey_answer c.args.s c.args.sines.now c.args.buf.now =
    (of-refusal _ _ _ _ (sym c.check.ensures ∙ c.in_err-check.was)).0 in
    search (rules, r)

pub returns-in_err-check-clause-buffer : goal.returns-in_err-check-clause-buffer
returns-in_err-check-clause-buffer c = (of-refusal _ c.args.sines.now _ _ (sym c.check.ensures ∙ c.in_err-check.was)).1.0

pub returns-in_err-check-clause-sines : goal.returns-in_err-check-clause-sines
returns-in_err-check-clause-sines c = (of-refusal _ _ c.args.buf.now _ (sym c.check.ensures ∙ c.in_err-check.was)).1.1.0

pub returns-in_err-check-clause-demand3 : goal.returns-in_err-check-clause-demand3
returns-in_err-check-clause-demand3 c =
    let f : c.from_residual.result ≡ Err c.in_err-check.field-0.0 = search rules in
    rw f (of-refusal _ c.args.sines.now c.args.buf.now _ (sym c.check.ensures ∙ c.in_err-check.was)).1.1.1

pub returns-clause-answer : goal.returns-clause-answer
returns-clause-answer c =
    let o = c.of_eclipse-o.ensures ∙ ap of_eclipse c.request_of.ensures in
    let e = c.sheet.ensures in
    (of-request _ _ _ _ o _ _ _ (sym c.check.ensures ∙ c.in_ok-check.was) (e.answer, (e.buffer, (e.sines, e.demand3)))).0

pub returns-clause-buffer : goal.returns-clause-buffer
returns-clause-buffer c =
    let o = c.of_eclipse-o.ensures ∙ ap of_eclipse c.request_of.ensures in
    let e = c.sheet.ensures in
    (of-request _ _ _ _ o _ _ _ (sym c.check.ensures ∙ c.in_ok-check.was) (e.answer, (e.buffer, (e.sines, e.demand3)))).1.0

pub returns-clause-sines : goal.returns-clause-sines
returns-clause-sines c =
    let o = c.of_eclipse-o.ensures ∙ ap of_eclipse c.request_of.ensures in
    let e = c.sheet.ensures in
    (of-request _ _ _ _ o _ _ _ (sym c.check.ensures ∙ c.in_ok-check.was) (e.answer, (e.buffer, (e.sines, e.demand3)))).1.1.0

pub returns-clause-demand3 : goal.returns-clause-demand3
returns-clause-demand3 c =
    let o = c.of_eclipse-o.ensures ∙ ap of_eclipse c.request_of.ensures in
    let e = c.sheet.ensures in
    (of-request _ _ _ _ o _ _ _ (sym c.check.ensures ∙ c.in_ok-check.was) (e.answer, (e.buffer, (e.sines, e.demand3)))).1.1.1
