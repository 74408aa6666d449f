-- `contact_times::check` meets its contract: the two seconds' own limits, then the request, the phase and the buffer.
use Rattle.std.proofs.Common.{◌≡◌, sym, ap, ◌∙◌, rules, true, false, Err, w64, to_z, of_z}
use Rattle.requests.specs.Windows.{window_holds}
use Rattle.contact_times.specs.Contacts.{phase_checked, contact_checked}
use Rattle.contact_times.proofs.laws.ContactLaws.{contact-window, contact-request, contact-phase, contact-room}
use Rattle.contact_times.proofs.check.Goals as goal

-- ---- two seconds that are no window
pub returns-then-not-holds-clause-answer : goal.returns-then-not-holds-clause-answer
returns-then-not-holds-clause-answer c =
    let a = c.args in
    let f : to_z w64 (of_z w64 c.args.from) ≡ c.args.from = search rules in
    let t : to_z w64 (of_z w64 c.args.to) ≡ c.args.to = search rules in
    let h : window_holds (record { first = a.from; last = a.to }) ≡ false = cc in
    (contact-window a.o a.phase a.from a.to a.sines.now h).0

pub returns-then-not-holds-clause-sines : goal.returns-then-not-holds-clause-sines
returns-then-not-holds-clause-sines c =
    let a = c.args in
    let f : to_z w64 (of_z w64 c.args.from) ≡ c.args.from = search rules in
    let t : to_z w64 (of_z w64 c.args.to) ≡ c.args.to = search rules in
    let h : window_holds (record { first = a.from; last = a.to }) ≡ false = cc in
    (contact-window a.o a.phase a.from a.to a.sines.now h).1

-- ---- a request that is refused
pub returns-in_err-check-clause-answer : goal.returns-in_err-check-clause-answer
returns-in_err-check-clause-answer c =
    let a = c.args in
    let f : to_z w64 (of_z w64 c.args.from) ≡ c.args.from = search rules in
    let t : to_z w64 (of_z w64 c.args.to) ≡ c.args.to = search rules in
    let h : window_holds (record { first = a.from; last = a.to }) ≡ true = cc in
    let r : Err c.in_err-check.field-0.0 ≡ contact_checked a.o a.phase a.from a.to a.sines.now =
    (contact-request a.o a.phase a.from a.to a.sines.now h _ (sym c.check.ensures ∙ c.in_err-check.was)).0 in
    search (rules, r)

pub returns-in_err-check-clause-sines : goal.returns-in_err-check-clause-sines
returns-in_err-check-clause-sines c =
    let a = c.args in
    let f : to_z w64 (of_z w64 c.args.from) ≡ c.args.from = search rules in
    let t : to_z w64 (of_z w64 c.args.to) ≡ c.args.to = search rules in
    let h : window_holds (record { first = a.from; last = a.to }) ≡ true = cc in
    (contact-request a.o a.phase a.from a.to a.sines.now h _ (sym c.check.ensures ∙ c.in_err-check.was)).1

-- ---- a phase that the shadow does not have
pub returns-in_err-check_phase-clause-answer : goal.returns-in_err-check_phase-clause-answer
returns-in_err-check_phase-clause-answer c =
    let a = c.args in
    let f : to_z w64 (of_z w64 c.args.from) ≡ c.args.from = search rules in
    let t : to_z w64 (of_z w64 c.args.to) ≡ c.args.to = search rules in
    let φ : to_z w64 (of_z w64 c.args.phase) ≡ c.args.phase = search rules in
    let h : window_holds (record { first = a.from; last = a.to }) ≡ true = cc in
    let p = sym (c.check_phase.ensures ∙ ap (phase_checked a.o.body) φ) ∙ c.in_err-check_phase.was in
    let r : Err c.in_err-check_phase.field-0.0 ≡ contact_checked a.o a.phase a.from a.to a.sines.now =
    (contact-phase a.o a.phase a.from a.to a.sines.now h (sym c.check.ensures ∙ c.in_ok-check.was) _ p).0 in
    search (rules, r)

pub returns-in_err-check_phase-clause-sines : goal.returns-in_err-check_phase-clause-sines
returns-in_err-check_phase-clause-sines c =
    let a = c.args in
    let f : to_z w64 (of_z w64 c.args.from) ≡ c.args.from = search rules in
    let t : to_z w64 (of_z w64 c.args.to) ≡ c.args.to = search rules in
    let φ : to_z w64 (of_z w64 c.args.phase) ≡ c.args.phase = search rules in
    let h : window_holds (record { first = a.from; last = a.to }) ≡ true = cc in
    let p = sym (c.check_phase.ensures ∙ ap (phase_checked a.o.body) φ) ∙ c.in_err-check_phase.was in
    (contact-phase a.o a.phase a.from a.to a.sines.now h (sym c.check.ensures ∙ c.in_ok-check.was) _ p).1

-- ---- the buffer
pub returns-clause-answer : goal.returns-clause-answer
returns-clause-answer c =
    let a = c.args in
    let f : to_z w64 (of_z w64 c.args.from) ≡ c.args.from = search rules in
    let t : to_z w64 (of_z w64 c.args.to) ≡ c.args.to = search rules in
    let φ : to_z w64 (of_z w64 c.args.phase) ≡ c.args.phase = search rules in
    let h : window_holds (record { first = a.from; last = a.to }) ≡ true = cc in
    let p = sym (c.check_phase.ensures ∙ ap (phase_checked a.o.body) φ) ∙ c.in_ok-check_phase.was in
    c.fill_sines.ensures.answer
    ∙ (contact-room a.o a.phase a.from a.to a.sines.now h (sym c.check.ensures ∙ c.in_ok-check.was) p).0

pub returns-clause-sines : goal.returns-clause-sines
returns-clause-sines c =
    let a = c.args in
    let f : to_z w64 (of_z w64 c.args.from) ≡ c.args.from = search rules in
    let t : to_z w64 (of_z w64 c.args.to) ≡ c.args.to = search rules in
    let φ : to_z w64 (of_z w64 c.args.phase) ≡ c.args.phase = search rules in
    let h : window_holds (record { first = a.from; last = a.to }) ≡ true = cc in
    let p = sym (c.check_phase.ensures ∙ ap (phase_checked a.o.body) φ) ∙ c.in_ok-check_phase.was in
    c.fill_sines.ensures.sines
    ∙ (contact-room a.o a.phase a.from a.to a.sines.now h (sym c.check.ensures ∙ c.in_ok-check.was) p).1
