-- `element_fits::numbers::given` meets its contract: the lengths decide first, then the checks one after another.
use Rattle.std.proofs.Common.{◌≡◌, rules, sym, ap, ◌∙◌, ℤ, Err, w64, to_z, of_z}
use Rattle.rounding.specs.Limits.{first_out_of_range}
use Rattle.sheet_types.specs.Refusals.{of_limits}
use Rattle.sheet_types.specs.laws.RefusalLaws.{then_within, then_refused}
use Rattle.element_fits.specs.Numbers.{tolerance_ranges, given_checked}
use Rattle.element_fits.specs.laws.NumbersLaws.{given-lengths, given-rows, given-sidereal, given-radii}
use Rattle.element_fits.proofs.numbers.given.Goals as goal

pub returns-then-rows-ne42 : goal.returns-then-rows-ne42
returns-then-rows-ne42 c = let a = c.args in sym (given-rows a.rows.now a.sidereal.now a.radii.now a.tolerance c.if-rows-ne42.true)

pub returns-then-sidereal-ne7 : goal.returns-then-sidereal-ne7
returns-then-sidereal-ne7 c =
    let a = c.args in
    sym (given-sidereal a.rows.now a.sidereal.now a.radii.now a.tolerance c.if-rows-ne42.false c.if-sidereal-ne7.true)

pub returns-then-radii-ne3 : goal.returns-then-radii-ne3
returns-then-radii-ne3 c =
    let a = c.args in
    sym (given-radii a.rows.now a.sidereal.now a.radii.now a.tolerance c.if-rows-ne42.false c.if-sidereal-ne7.false c.if-radii-ne3.true)

pub returns-in_err-tolerance_checked : goal.returns-in_err-tolerance_checked
returns-in_err-tolerance_checked c =
    let a = c.args in
    let q : to_z w64 (of_z w64 a.tolerance) ≡ a.tolerance = search rules in
    let e = c.tolerance_checked.ensures ∙ ap (λ (z : ℤ). of_limits 18 (first_out_of_range 0 (tolerance_ranges z))) q in
    let r : Err c.in_err-tolerance_checked.field-0.0 ≡ given_checked a.rows.now a.sidereal.now a.radii.now a.tolerance =
    sym (given-lengths _ _ _ _ c.if-rows-ne42.false c.if-sidereal-ne7.false c.if-radii-ne3.false ∙ then_refused _ _ _ (sym e ∙ c.in_err-tolerance_checked.was)) in
    search (rules, r)

pub returns-in_err-ranges_checked : goal.returns-in_err-ranges_checked
returns-in_err-ranges_checked c =
    let a = c.args in
    let q : to_z w64 (of_z w64 a.tolerance) ≡ a.tolerance = search rules in
    let e = c.tolerance_checked.ensures ∙ ap (λ (z : ℤ). of_limits 18 (first_out_of_range 0 (tolerance_ranges z))) q in
    let r : Err c.in_err-ranges_checked.field-0.0 ≡ given_checked a.rows.now a.sidereal.now a.radii.now a.tolerance =
    sym (given-lengths _ _ _ _ c.if-rows-ne42.false c.if-sidereal-ne7.false c.if-radii-ne3.false ∙ then_within _ _ (sym e ∙ c.in_ok-tolerance_checked.was)
    ∙ then_refused _ _ _ (sym c.ranges_checked.ensures ∙ c.in_err-ranges_checked.was)) in
    search (rules, r)

pub returns : goal.returns
returns c =
    let a = c.args in
    let q : to_z w64 (of_z w64 a.tolerance) ≡ a.tolerance = search rules in
    let e = c.tolerance_checked.ensures ∙ ap (λ (z : ℤ). of_limits 18 (first_out_of_range 0 (tolerance_ranges z))) q in
    c.rows_checked.ensures
    ∙ sym (given-lengths a.rows.now a.sidereal.now a.radii.now a.tolerance c.if-rows-ne42.false c.if-sidereal-ne7.false c.if-radii-ne3.false
    ∙ then_within _ _ (sym e ∙ c.in_ok-tolerance_checked.was) ∙ then_within _ _ (sym c.ranges_checked.ensures ∙ c.in_ok-ranges_checked.was))
