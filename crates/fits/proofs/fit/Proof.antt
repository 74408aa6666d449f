-- `fits::fit` meets its contract: each range decides in its turn; where the first two hold, the hours can be asked.
use Rattle.std.specs.Prelude.{None}
use mathlib.Core.Path.{◌≡◌, sym, ◌∙◌}
use mathlib.Core.List.{List}
use borrow.Author.Rules.{rules}
use lib.IntN.{ℤ}
use mir.Syntax.{w64}
use mir.ValLaws.{to_z-of_z}
use Rattle.rounding.specs.Limits.{first_out_of_range}
use Rattle.rounding.specs.laws.Code.{read-size}
use Rattle.elements.specs.Elements.{cubic_from}
use Rattle.fits.specs.Fits.{given_ranges, coefficient_ranges, hour_ranges}
use Rattle.fits.specs.laws.FitLaws.{fit-not-four, fit-not-seven, fit-given, fit-coefficient, fit-hour, fit-accepted, in-ranges, tolerance-size}
use Rattle.fits.proofs.fit.Statement.{statement}
use Rattle.fits.proofs.fit.Tie as tie

-- the numbers, where there are four and seven
abbrev cs : tie.Else-tabulated-ne7 → List ℤ
cs q = q.args.coefficients.now

abbrev ts : tie.Else-tabulated-ne7 → List ℤ
ts q = q.args.tabulated.now

abbrev tolerance : tie.Else-tabulated-ne7 → ℤ
tolerance q = q.args.tolerance

-- the ranges as they are found, in the terms of the definition
given_is : (c : tie.After-given_in_range-given) → c.given_in_range-given.result ≡ first_out_of_range 0 (given_ranges (tolerance c.before) (ts c.before))
given_is c = rw (to_z-of_z w64 (tolerance c.before) c.ranges.tolerance) at c.given_in_range-given.ensures

module _ (c : tie.In_default-proposed) where
  abbrev told : tie.In_default
  told = c.before

  abbrev found : tie.After-coefficients_in_range-proposed
  found = told.before

  abbrev q : tie.Else-tabulated-ne7
  q = found.before.before

  given-within : first_out_of_range 0 (given_ranges (tolerance q) (ts q)) ≡ None
  given-within = sym (given_is found.before) ∙ told.in_default.is

  proposed-within : first_out_of_range 0 (coefficient_ranges (cubic_from (cs q) 0)) ≡ None
  proposed-within = sym found.coefficients_in_range-proposed.ensures ∙ c.in_default-proposed.is

hours-are : (c : tie.After-hours_in_range-hours) → let p = q c.before in
    c.hours_in_range-hours.result ≡ first_out_of_range 0 (hour_ranges (cubic_from (cs p) 0) (ts p) (tolerance p))
hours-are c =
    let start = (q c.before).before.before in
    rw (to_z-of_z w64 start.args.tolerance start.ranges.tolerance) at c.hours_in_range-hours.ensures

returns : tie.Need-returns-then-coefficients-ne4
returns c = let a = c.args in sym (fit-not-four a.coefficients.now a.tabulated.now a.tolerance c.if-coefficients-ne4.true)

returns-2 : tie.Need-returns-then-tabulated-ne7
returns-2 c =
    let a = c.args in
    sym (fit-not-seven a.coefficients.now a.tabulated.now a.tolerance c.if-coefficients-ne4.false c.if-tabulated-ne7.true)

returns-3 : tie.Need-returns-in-Some
returns-3 c =
    let given = c.before.before in
    let q = given.before in
    let e = sym (given_is given) ∙ c.in-Some.is in
    sym (fit-given (cs q) (ts q) (tolerance q) q.if-coefficients-ne4.false q.if-tabulated-ne7.false _ e)

returns-4 : tie.Need-returns-in-Some-proposed
returns-4 c =
    let told = c.before in
    let found = told.before in
    let q = found.before.before in
    let within = sym (given_is found.before) ∙ told.in_default.is in
    let e = sym found.coefficients_in_range-proposed.ensures ∙ c.in-Some-proposed.is in
    sym (fit-coefficient (cs q) (ts q) (tolerance q) q.if-coefficients-ne4.false q.if-tabulated-ne7.false within _ e)

hours-in-range-requires : tie.Need-hours_in_range-hours-requires
hours-in-range-requires c κs =
    let four = (q c).before.if-coefficients-ne4.false in
    let seven = (q c).if-tabulated-ne7.false in
    let size = tolerance-size (cs (q c)) (ts (q c)) (tolerance (q c)) four seven (given-within c) in
    (in-ranges (cs (q c)) (ts (q c)) (tolerance (q c)) four seven (given-within c) (proposed-within c), read-size (tolerance (q c)) 1000 size tt)

returns-5 : tie.Need-returns-in-Some-hours
returns-5 c =
    let asked = c.before in
    let t = asked.before in
    let p = q t in
    let e = sym (hours-are asked) ∙ c.in-Some-hours.is in
    sym (fit-hour (cs p) (ts p) (tolerance p) p.if-coefficients-ne4.false p.if-tabulated-ne7.false (given-within t) (proposed-within t) _ e)

returns-6 : tie.Need-returns
returns-6 c =
    let asked = c.before in
    let t = asked.before in
    let p = q t in
    let e = sym (hours-are asked) ∙ c.in_default-hours.is in
    sym (fit-accepted (cs p) (ts p) (tolerance p) p.if-coefficients-ne4.false p.if-tabulated-ne7.false (given-within t) (proposed-within t) e)

pub fit_spec : {M : Type 1} → statement M
fit_spec =
    tie.close
    (tie.spec returns returns-2 (λ c κs. search rules) (λ c κs. search rules) (λ c. search rules) returns-3
    (λ c. search rules) (λ c. search rules) returns-4 (λ c. search rules) hours-in-range-requires
    (λ c. search rules) returns-5 (λ c. search rules) returns-6)
