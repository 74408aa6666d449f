-- `elements::stars::check` meets its contract: the elements under 2, then the radius under 13.
use Rattle.std.proofs.Common.{◌≡◌, sym, ap, ◌∙◌, rules, Result, Err, ℤ, w64, to_z, of_z}
use Rattle.sheet_types.specs.declared.refusals.Refusal.{Refusal}
use Rattle.sheet_types.specs.Refusals.{of_limits, andThen}
use Rattle.elements.specs.Stars.{radius_range_of, star_checked}
use Rattle.elements.proofs.stars.check.Goals as goal

pub returns-in_err-check_elements : goal.returns-in_err-check_elements
returns-in_err-check_elements c =
    let r : Err c.in_err-check_elements.field-0.0 ≡ star_checked c.args.s =
    sym (ap (λ (k : Result Unit Refusal). andThen k (of_limits 13 (radius_range_of c.args.s.radius)))
    (sym c.check_elements.ensures ∙ c.in_err-check_elements.was)) in
    search (rules, r)

pub returns : goal.returns
returns c =
    let q : to_z w64 (of_z w64 c.args.s.radius) ≡ c.args.s.radius = search rules in
    c.check_radius.ensures ∙ ap (λ (z : ℤ). of_limits 13 (radius_range_of z)) q
    ∙ sym (ap (λ (k : Result Unit Refusal). andThen k (of_limits 13 (radius_range_of c.args.s.radius)))
    (sym c.check_elements.ensures ∙ c.in_ok-check_elements.was))
