-- `requests::admission::admit` meets its contract: a refusal of the numbers leaves the buffer, and then the buffer
-- answers.
use Rattle.std.proofs.Common.{◌≡◌, sym, ◌∙◌, rules, Err}
use Rattle.requests.specs.Admission.{admitted}
use Rattle.requests.proofs.laws.AdmissionLaws.{admitted-refused, admitted-room}
use Rattle.requests.proofs.admission.admit.Goals as goal

pub returns-in_err-check-clause-answer : goal.returns-in_err-check-clause-answer
returns-in_err-check-clause-answer c =
    let r : Err c.in_err-check.field-0.0 ≡ admitted c.args.o c.args.sines.now = (admitted-refused _ _ _ (sym c.check.ensures ∙ c.in_err-check.was)).0 in
    search (rules, r)

pub returns-in_err-check-clause-sines : goal.returns-in_err-check-clause-sines
returns-in_err-check-clause-sines c = (admitted-refused _ _ _ (sym c.check.ensures ∙ c.in_err-check.was)).1

pub returns-clause-answer : goal.returns-clause-answer
returns-clause-answer c = c.fill_sines.ensures.answer ∙ (admitted-room _ _ (sym c.check.ensures ∙ c.in_ok-check.was)).0

pub returns-clause-sines : goal.returns-clause-sines
returns-clause-sines c = c.fill_sines.ensures.sines ∙ (admitted-room _ _ (sym c.check.ensures ∙ c.in_ok-check.was)).1
