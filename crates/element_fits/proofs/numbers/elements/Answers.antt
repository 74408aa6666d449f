-- `element_fits::numbers::elements` meets its contract: the answer first, and the numbers only where they are made. The
-- tolerance is read back from its bits.
use Rattle.std.proofs.Common.{◌≡◌, rules, sym, ap, ◌∙◌, ℤ, Result, length, w64, to_z, of_z}
use Rattle.sheet_types.specs.declared.refusals.Refusal.{Refusal}
use Rattle.element_fits.specs.declared.Fits.{Fits}
use Rattle.element_fits.specs.Numbers.{answer_to, elements_after}
use Rattle.element_fits.specs.laws.NumbersLaws.{answer-fits}
use Rattle.element_fits.proofs.numbers.elements.Goals as goal

pub put_elements-requires : goal.put_elements-requires
put_elements-requires c =
    let a = c.args in
    let q : to_z w64 (of_z w64 a.tolerance) ≡ a.tolerance = search rules in
    let e = c.answered.ensures.answer
    ∙ ap (λ (t : ℤ). answer_to a.rows.now a.sidereal.now a.radii.now t a.sines.now (length a.elements.now) (length a.misfits.now)) q in
    (answer-fits _ _ _ _ _ _ _ _ (sym e ∙ c.in_ok-f.was)).0

pub put_misfits-requires : goal.put_misfits-requires
put_misfits-requires c =
    let a = c.args in
    let q : to_z w64 (of_z w64 a.tolerance) ≡ a.tolerance = search rules in
    let e = c.answered.ensures.answer
    ∙ ap (λ (t : ℤ). answer_to a.rows.now a.sidereal.now a.radii.now t a.sines.now (length a.elements.now) (length a.misfits.now)) q in
    (answer-fits _ _ _ _ _ _ _ _ (sym e ∙ c.in_ok-f.was)).1

pub returns-clause-elements : goal.returns-clause-elements
returns-clause-elements c =
    let a = c.args in
    let q : to_z w64 (of_z w64 a.tolerance) ≡ a.tolerance = search rules in
    let e = c.answered.ensures.answer
    ∙ ap (λ (t : ℤ). answer_to a.rows.now a.sidereal.now a.radii.now t a.sines.now (length a.elements.now) (length a.misfits.now)) q in
    c.put_elements.ensures ∙ ap (λ (x : Result Fits Refusal). elements_after x a.elements.now) (sym c.in_ok-f.was ∙ e)
