-- `float_requests::instrument::writing::judged` meets its contract: the count, the elements, the longitude, the
-- buffer; the first that is refused answers.
use Rattle.std.proofs.Common.{◌≡◌, sym, ap, ◌∙◌, rules, Err, ℤ, List, Result, pos, w64, to_z, of_z}
use Rattle.std.proofs.Math.ListN.{get_or}
use Rattle.sheet_types.specs.declared.refusals.Refusal.{Refusal}
use Rattle.elements.specs.declared.Elements.{Elements}
use Rattle.elements.specs.Elements.{elements_of, elements_checked}
use Rattle.float_requests.specs.Writing.{longitude_checked, answer_to}
use Rattle.float_requests.specs.laws.WritingLaws.{answer-shape, answer-element, answer-longitude, answer-room, answer-made}
use Rattle.float_requests.proofs.instrument.writing.judged.Goals as goal

-- what the elements' check found
elements_are : (us : List ℤ) (e : Elements) (r s : Result Unit Refusal) → e ≡ elements_of us → r ≡ elements_checked e → r ≡ s
    → elements_checked (elements_of us) ≡ s
elements_are us e r s f g h = sym (g ∙ ap elements_checked f) ∙ h

-- what the longitude's check found
longitude-is : (us : List ℤ) (z : ℤ) (r s : Result Unit Refusal) → z ≡ get_or us 22 (pos 0) → r ≡ longitude_checked z → r ≡ s
    → longitude_checked (get_or us 22 (pos 0)) ≡ s
longitude-is us z r s f g h = sym (g ∙ ap longitude_checked f) ∙ h

pub returns-then-units-ne23 : goal.returns-then-units-ne23
returns-then-units-ne23 c = sym (answer-shape c.args.units.now c.args.room c.if-units-ne23.true)

pub returns-in_err-check : goal.returns-in_err-check
returns-in_err-check c =
    let us = c.args.units.now in
    let r : Err c.in_err-check.field-0.0 ≡ answer_to us c.args.room =
    sym (answer-element us c.args.room c.if-units-ne23.false _ (elements_are us _ _ _ c.from_numbers-e.ensures c.check.ensures c.in_err-check.was)) in
    search (rules, r)

pub returns-in_err-check_longitude : goal.returns-in_err-check_longitude
returns-in_err-check_longitude c =
    let us = c.args.units.now in
    let q : to_z w64 (of_z w64 (get_or us 22 (pos 0))) ≡ get_or us 22 (pos 0) = search rules in
    let e = elements_are us _ _ _ c.from_numbers-e.ensures c.check.ensures c.in_ok-check.was in
    let r : Err c.in_err-check_longitude.field-0.0 ≡ answer_to us c.args.room =
    sym (answer-longitude us c.args.room c.if-units-ne23.false e _ (longitude-is us _ _ _ q c.check_longitude.ensures c.in_err-check_longitude.was)) in
    search (rules, r)

pub returns-then-room-lt23 : goal.returns-then-room-lt23
returns-then-room-lt23 c =
    let us = c.args.units.now in
    let q : to_z w64 (of_z w64 (get_or us 22 (pos 0))) ≡ get_or us 22 (pos 0) = search rules in
    let e = elements_are us _ _ _ c.from_numbers-e.ensures c.check.ensures c.in_ok-check.was in
    sym (answer-room us c.args.room c.if-units-ne23.false e (longitude-is us _ _ _ q c.check_longitude.ensures c.in_ok-check_longitude.was) c.if-room-lt23.true)

pub returns : goal.returns
returns c =
    let us = c.args.units.now in
    let q : to_z w64 (of_z w64 (get_or us 22 (pos 0))) ≡ get_or us 22 (pos 0) = search rules in
    let e = elements_are us _ _ _ c.from_numbers-e.ensures c.check.ensures c.in_ok-check.was in
    sym (answer-made us c.args.room c.if-units-ne23.false e (longitude-is us _ _ _ q c.check_longitude.ensures c.in_ok-check_longitude.was) c.if-room-lt23.false)
