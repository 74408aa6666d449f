-- `requests::check` meets its contract: the window, the guard, the elements, then the station; the first that is out
-- of range answers.
use Rattle.std.proofs.Common.{◌≡◌, sym, ap, ◌∙◌, rules, Err, w64, to_z, of_z}
use Rattle.requests.specs.Requests.{guard_holds, checked}
use Rattle.requests.specs.RequestLaws.{checked-window, checked-guard, checked-element, checked-station}
use Rattle.requests.proofs.check.Goals as goal

pub returns-then-not-holds : goal.returns-then-not-holds
returns-then-not-holds c = sym (checked-window c.args.o (sym c.window_holds-holds.ensures ∙ c.if-not-holds.true))

pub returns-then-not-guarded : goal.returns-then-not-guarded
returns-then-not-guarded c =
    let q : to_z w64 (of_z w64 c.args.o.guard) ≡ c.args.o.guard = search rules in
    sym (checked-guard c.args.o (sym c.window_holds-holds.ensures ∙ c.if-not-holds.false)
    (sym (c.guard_holds-guarded.ensures ∙ ap guard_holds q) ∙ c.if-not-guarded.true))

pub returns-in_err-check_body : goal.returns-in_err-check_body
returns-in_err-check_body c =
    let q : to_z w64 (of_z w64 c.args.o.guard) ≡ c.args.o.guard = search rules in
    let h = sym c.window_holds-holds.ensures ∙ c.if-not-holds.false in
    let g = sym (c.guard_holds-guarded.ensures ∙ ap guard_holds q) ∙ c.if-not-guarded.false in
    let r : Err c.in_err-check_body.field-0.0 ≡ checked c.args.o = sym (checked-element c.args.o h g (sym c.check_body.ensures ∙ c.in_err-check_body.was)) in
    search (rules, r)

pub returns : goal.returns
returns c =
    let q : to_z w64 (of_z w64 c.args.o.guard) ≡ c.args.o.guard = search rules in
    let h = sym c.window_holds-holds.ensures ∙ c.if-not-holds.false in
    let g = sym (c.guard_holds-guarded.ensures ∙ ap guard_holds q) ∙ c.if-not-guarded.false in
    c.check.ensures ∙ sym (checked-station c.args.o h g (sym c.check_body.ensures ∙ c.in_ok-check_body.was))
