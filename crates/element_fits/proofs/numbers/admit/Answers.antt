-- `element_fits::numbers::admit` meets its contract: a refusal of the numbers leaves the buffer, and then the buffer
-- answers. The tolerance is read back from its bits.
use Rattle.std.proofs.Common.{◌≡◌, rules, sym, ap, ◌∙◌, Err, w64, to_z, of_z}
use Rattle.element_fits.specs.Numbers.{given_checked, admitted}
use Rattle.element_fits.specs.laws.NumbersLaws.{admitted-refused, admitted-room}
use Rattle.element_fits.proofs.numbers.admit.Goals as goal

pub returns-in_err-given-clause-answer : goal.returns-in_err-given-clause-answer
returns-in_err-given-clause-answer c =
    let a = c.args in
    let q : to_z w64 (of_z w64 a.tolerance) ≡ a.tolerance = search rules in
    let e = c.given.ensures ∙ ap (given_checked a.rows.now a.sidereal.now a.radii.now) q in
    let r : Err c.in_err-given.field-0.0 ≡ admitted a.rows.now a.sidereal.now a.radii.now a.tolerance a.sines.now =
    (admitted-refused _ _ _ _ _ _ (sym e ∙ c.in_err-given.was)).0 in
    search (rules, r)

pub returns-in_err-given-clause-sines : goal.returns-in_err-given-clause-sines
returns-in_err-given-clause-sines c =
    let a = c.args in
    let q : to_z w64 (of_z w64 a.tolerance) ≡ a.tolerance = search rules in
    let e = c.given.ensures ∙ ap (given_checked a.rows.now a.sidereal.now a.radii.now) q in
    (admitted-refused _ _ _ _ _ _ (sym e ∙ c.in_err-given.was)).1

pub returns-clause-answer : goal.returns-clause-answer
returns-clause-answer c =
    let a = c.args in
    let q : to_z w64 (of_z w64 a.tolerance) ≡ a.tolerance = search rules in
    let e = c.given.ensures ∙ ap (given_checked a.rows.now a.sidereal.now a.radii.now) q in
    c.fill_sines.ensures.answer ∙ (admitted-room _ _ _ _ _ (sym e ∙ c.in_ok-given.was)).0

pub returns-clause-sines : goal.returns-clause-sines
returns-clause-sines c =
    let a = c.args in
    let q : to_z w64 (of_z w64 a.tolerance) ≡ a.tolerance = search rules in
    let e = c.given.ensures ∙ ap (given_checked a.rows.now a.sidereal.now a.radii.now) q in
    c.fill_sines.ensures.sines ∙ (admitted-room _ _ _ _ _ (sym e ∙ c.in_ok-given.was)).1
