-- `fits::given_in_range` meets its contract: the tolerance, then the seven values.
use Rattle.std.proofs.Common.{◌≡◌, rules, arith, sym, ap, ◌∙◌, w64, to_z, of_z, None}
use Rattle.rounding.specs.Limits.{first_out_of_range}
use Rattle.fits.specs.Fits.{given_ranges}
use Rattle.fits.specs.laws.RangeLaws.{further, place_within, given-low, given-high, given-after}
use Rattle.fits.proofs.given_in_range.Goals as goal

-- the tests are on numbers as they are read from their bits
pub returns-then-tolerance-lt0 : goal.returns-then-tolerance-lt0
returns-then-tolerance-lt0 c =
    let q : to_z w64 (of_z w64 c.args.tolerance) ≡ c.args.tolerance = search rules in
    given-low c.args.tolerance _ (rw q at c.if-tolerance-lt0.true)

pub returns-then-tolerance-gt1000 : goal.returns-then-tolerance-gt1000
returns-then-tolerance-gt1000 c =
    let q : to_z w64 (of_z w64 c.args.tolerance) ≡ c.args.tolerance = search rules in
    given-high c.args.tolerance _ (rw q at c.if-tolerance-lt0.false) (rw q at c.if-tolerance-gt1000.true)

pub returns-in_err-i : goal.returns-in_err-i
returns-in_err-i c =
    let q : to_z w64 (of_z w64 c.args.tolerance) ≡ c.args.tolerance = search rules in
    let after = given-after c.args.tolerance c.args.tabulated.now (rw q at c.if-tolerance-lt0.false) (rw q at c.if-tolerance-gt1000.false)
    c.requires _ c.first_out_of_range.ensures in
    let r : None ≡ first_out_of_range 0 (given_ranges c.args.tolerance c.args.tabulated.now) = sym (ap further c.in_err-i.was) ∙ after in
    search (rules, r)

pub overflow_add-result : goal.overflow_add-result
overflow_add-result c =
    omega (arith, place_within c.args.tabulated.now c.requires _ c.first_out_of_range.ensures _ c.in_ok-i.was)

pub returns : goal.returns
returns c =
    let q : to_z w64 (of_z w64 c.args.tolerance) ≡ c.args.tolerance = search rules in
    let after = given-after c.args.tolerance c.args.tabulated.now (rw q at c.if-tolerance-lt0.false) (rw q at c.if-tolerance-gt1000.false)
    c.requires _ c.first_out_of_range.ensures in
    sym (ap further c.in_ok-i.was) ∙ after
