-- `float_requests::instrument::check_finite` meets its contract: the elements, then the longitude.
use Rattle.std.proofs.Common.{◌≡◌, sym, ap, ◌∙◌, rules, List, Float, Result, Err}
use Rattle.std.specs.Float.Ieee.Scale.{finite}
use Rattle.sheet_types.specs.declared.refusals.Refusal.{Refusal}
use Rattle.float_requests.specs.Instrument.{first_not_finite, finite_checked}
use Rattle.float_requests.specs.laws.SearchLaws.{finite-element, finite-longitude, finite-all}
use Rattle.float_requests.proofs.instrument.check_finite.Goals as goal

-- what the search found, of the doubles of the struct
found : (xs ys : List Float) (r s : Result Unit Refusal) → r ≡ first_not_finite 0 xs → xs ≡ ys → r ≡ s → first_not_finite 0 ys ≡ s
found xs ys r s e f g = sym (e ∙ ap (first_not_finite 0) f) ∙ g

pub returns-in_err-first_not_finite : goal.returns-in_err-first_not_finite
returns-in_err-first_not_finite c =
    let r : Err c.in_err-first_not_finite.field-0.0 ≡ finite_checked c.args.d c.args.longitude =
    sym (finite-element c.args.d c.args.longitude _ (found _ _ _ _ c.first_not_finite.ensures c.from-xs.ensures c.in_err-first_not_finite.was)) in
    search (rules, r)

pub returns-then-not-known : goal.returns-then-not-known
returns-then-not-known c =
    sym
    (finite-longitude c.args.d c.args.longitude (found _ _ _ _ c.first_not_finite.ensures c.from-xs.ensures c.in_ok-first_not_finite.was)
    (sym (c.is_finite-known.ensures ∙ ap finite c.double_in-x.ensures) ∙ c.if-not-known.true))

pub returns : goal.returns
returns c =
    sym
    (finite-all c.args.d c.args.longitude (found _ _ _ _ c.first_not_finite.ensures c.from-xs.ensures c.in_ok-first_not_finite.was)
    (sym (c.is_finite-known.ensures ∙ ap finite c.double_in-x.ensures) ∙ c.if-not-known.false))
