-- `element_fits::judged` meets its contract: the ranges decide first, then the tolerance.
use Rattle.std.proofs.Common.{◌≡◌, rules, sym, ap, ◌∙◌, Ok, Err}
use Rattle.element_fits.specs.declared.Misfits.{Misfits}
use Rattle.element_fits.specs.Answers.{judged}
use Rattle.element_fits.specs.laws.AnswersLaws.{judged-element, judged-missed, judged-made}
use Rattle.element_fits.proofs.judged.Goals as goal

pub returns-in_err-check : goal.returns-in_err-check
returns-in_err-check c =
    let r : Err c.in_err-check.field-0.0 ≡ judged c.args.f c.args.tolerance = sym (judged-element _ _ _ (sym c.check.ensures ∙ c.in_err-check.was)) in
    search (rules, r)

pub returns-in-Some : goal.returns-in-Some
returns-in-Some c = sym (judged-missed c.args.f c.args.tolerance (sym c.check.ensures ∙ c.in_ok-check.was) _ (sym c.first_missed.ensures ∙ c.in-Some.is))

pub returns : goal.returns
returns c =
    ap (λ (m : Misfits). Ok (record { elements = c.args.f.elements; misfits = m })) c.misfits_of.ensures
    ∙ sym (judged-made c.args.f c.args.tolerance (sym c.check.ensures ∙ c.in_ok-check.was) (sym c.first_missed.ensures ∙ c.in_default.is))
