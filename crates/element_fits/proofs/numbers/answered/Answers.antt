-- `element_fits::numbers::answered` meets its contract: what is admitted is asked for and judged by its buffers. The
-- tolerance is read back from its bits.
use Rattle.std.proofs.Common.{◌≡◌, rules, sym, ap, subst, ◌∙◌, ℤ, Err, w64, to_z, of_z}
use Rattle.sine_table.specs.Table.{Sines}
use Rattle.requests.specs.Admission.{sines_after}
use Rattle.element_fits.specs.Numbers.{admitted, fits_asked, in_rooms, answer_to}
use Rattle.element_fits.specs.laws.NumbersLaws.{Taken, admitted-within, answer-refused, answer-asked}
use Rattle.element_fits.proofs.numbers.answered.Goals as goal

pub returns-in_err-admit-clause-answer : goal.returns-in_err-admit-clause-answer
returns-in_err-admit-clause-answer c =
    let a = c.args in
    let q : to_z w64 (of_z w64 a.tolerance) ≡ a.tolerance = search rules in
    let e = c.admit.ensures.answer ∙ ap (λ (t : ℤ). admitted a.rows.now a.sidereal.now a.radii.now t a.sines.now) q in
    let r : Err c.in_err-admit.field-0.0 ≡ answer_to a.rows.now a.sidereal.now a.radii.now a.tolerance a.sines.now a.room a.second =
    sym (answer-refused _ _ _ _ _ _ _ _ (sym e ∙ c.in_err-admit.was)) in
    search (rules, r)

pub asked-found-requires : goal.asked-found-requires
asked-found-requires c =
    let a = c.args in
    let q : to_z w64 (of_z w64 a.tolerance) ≡ a.tolerance = search rules in
    let e = c.admit.ensures.answer ∙ ap (λ (t : ℤ). admitted a.rows.now a.sidereal.now a.radii.now t a.sines.now) q in
    let s = c.admit.ensures.sines ∙ ap (λ (t : ℤ). sines_after (admitted a.rows.now a.sidereal.now a.radii.now t a.sines.now) a.sines.now) q in
    let w = admitted-within a.rows.now a.sidereal.now a.radii.now a.tolerance a.sines.now (sym e ∙ c.in_ok-admit.was) in
    (subst Sines (sym s) w.1, subst (Taken a.rows.now a.sidereal.now a.radii.now) (sym q) w.0)

pub returns-clause-answer : goal.returns-clause-answer
returns-clause-answer c =
    let a = c.args in
    let q : to_z w64 (of_z w64 a.tolerance) ≡ a.tolerance = search rules in
    let e = c.admit.ensures.answer ∙ ap (λ (t : ℤ). admitted a.rows.now a.sidereal.now a.radii.now t a.sines.now) q in
    let f = c.asked-found.ensures ∙ ap (fits_asked a.rows.now a.sidereal.now a.radii.now) q in
    c.in_rooms.ensures ∙ ap (in_rooms a.room a.second) f ∙ sym (answer-asked _ _ _ _ _ _ _ (sym e ∙ c.in_ok-admit.was))
