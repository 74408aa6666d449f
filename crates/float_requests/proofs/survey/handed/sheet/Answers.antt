-- `float_requests::survey::handed::sheet` meets its contract: the survey's own sheet; a shape that is refused leaves
-- both buffers alone.
use Rattle.std.proofs.Common.{◌≡◌, sym, ◌∙◌, rules, Err}
use Rattle.float_requests.specs.Handed.{handed_of, answer_to}
use Rattle.float_requests.proofs.laws.HandedLaws.{of-survey, of-refusal}
use Rattle.float_requests.proofs.survey.handed.sheet.Goals as goal

pub returns-in_err-s-clause-answer : goal.returns-in_err-s-clause-answer
returns-in_err-s-clause-answer c =
    let a = c.args in
    let r : Err c.in_err-s.field-0.0 ≡ answer_to (handed_of a.elements.now a.longitude a.hours a.rest.now) a.sines.now a.buf.now =
    (of-refusal _ _ _ _ _ _ _ (sym c.survey.ensures ∙ c.in_err-s.was)).0 in
    search (rules, r)

pub returns-in_err-s-clause-buffer : goal.returns-in_err-s-clause-buffer
returns-in_err-s-clause-buffer c = (of-refusal _ _ _ _ c.args.sines.now _ _ (sym c.survey.ensures ∙ c.in_err-s.was)).1.0

pub returns-in_err-s-clause-sines : goal.returns-in_err-s-clause-sines
returns-in_err-s-clause-sines c = (of-refusal _ _ _ _ _ c.args.buf.now _ (sym c.survey.ensures ∙ c.in_err-s.was)).1.1.0

pub returns-in_err-s-clause-demand3 : goal.returns-in_err-s-clause-demand3
returns-in_err-s-clause-demand3 c =
    let f : c.from_residual.result ≡ Err c.in_err-s.field-0.0 = search rules in
    rw f (of-refusal _ _ _ _ c.args.sines.now c.args.buf.now _ (sym c.survey.ensures ∙ c.in_err-s.was)).1.1.1

pub returns-clause-answer : goal.returns-clause-answer
returns-clause-answer c =
    let e = c.sheet.ensures in
    (of-survey _ _ _ _ _ _ c.in_ok-s.s _ _ _ (sym c.survey.ensures ∙ c.in_ok-s.was) (e.answer, (e.buffer, (e.sines, e.demand3)))).0

pub returns-clause-buffer : goal.returns-clause-buffer
returns-clause-buffer c =
    let e = c.sheet.ensures in
    (of-survey _ _ _ _ _ _ c.in_ok-s.s _ _ _ (sym c.survey.ensures ∙ c.in_ok-s.was) (e.answer, (e.buffer, (e.sines, e.demand3)))).1.0

pub returns-clause-sines : goal.returns-clause-sines
returns-clause-sines c =
    let e = c.sheet.ensures in
    (of-survey _ _ _ _ _ _ c.in_ok-s.s _ _ _ (sym c.survey.ensures ∙ c.in_ok-s.was) (e.answer, (e.buffer, (e.sines, e.demand3)))).1.1.0

pub returns-clause-demand3 : goal.returns-clause-demand3
returns-clause-demand3 c =
    let e = c.sheet.ensures in
    (of-survey _ _ _ _ _ _ c.in_ok-s.s _ _ _ (sym c.survey.ensures ∙ c.in_ok-s.was) (e.answer, (e.buffer, (e.sines, e.demand3)))).1.1.1
