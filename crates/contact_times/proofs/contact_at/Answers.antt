-- `contact_times::contact_at` meets its contract: what is refused first, then the search.
use Rattle.std.proofs.Common.{◌≡◌, refl, sym, ap, ◌∙◌, rules, subst, List, ℕ, ℤ, Option, Some, None, Result, Ok, Err, w64, to_z, of_z}
use Rattle.std.specs.Prelude.{ok_or}
use Rattle.rounding.specs.laws.Code.{read-size}
use Rattle.sheet_types.specs.declared.refusals.Refusal.{Refusal}
use Rattle.sheet_types.specs.Refusals.{refusal}
use Rattle.sine_table.specs.Table.{Sines}
use Rattle.requests.specs.declared.Occultation.{Occultation}
use Rattle.requests.specs.WindowLaws.{window-sizes}
use Rattle.contact_times.specs.Brackets.{bracket_of}
use Rattle.contact_times.specs.Contacts.{crossing, phase_at, contact_checked, contact_answer, contact_sines, found}
use Rattle.contact_times.proofs.laws.ContactLaws.{Held, contact-within, contact-is, as_natural}
use Rattle.contact_times.proofs.contact_at.Goals as goal

-- the same of equal numbers
module _ (o : Occultation) {φ ψ f g t u : ℤ} (e : φ ≡ ψ) (h : f ≡ g) (k : t ≡ u) where
  checked-same : (sines : List ℕ) → contact_checked o φ f t sines ≡ contact_checked o ψ g u sines
  checked-same sines = rw (e, h, k) refl

  held : (sines : List ℕ) {c : Result Unit Refusal} → c ≡ contact_checked o φ f t sines → c ≡ Ok tt → Held o ψ g u sines
  held sines is within = contact-within o ψ g u sines (sym (is ∙ checked-same sines) ∙ within)

  sines-same : (sines : List ℕ) → contact_sines o φ f t sines ≡ contact_sines o ψ g u sines
  sines-same sines = rw (e, h, k) refl

  bracket-same : bracket_of (crossing o (phase_at o.body φ)) f t ≡ bracket_of (crossing o (phase_at o.body ψ)) g u
  bracket-same = rw (e, h, k) refl

-- a bracket, or the refusal
found-is : (b : Option (ℤ × ℤ)) → ok_or b (refusal 22 1) ≡ found b
found-is (Some (x, y)) = refl
found-is None = refl

pub returns-in_err-check-clause-answer : goal.returns-in_err-check-clause-answer
returns-in_err-check-clause-answer c =
    let a = c.args in
    let φ : to_z w64 (of_z w64 c.args.phase) ≡ c.args.phase = search rules in
    let f : to_z w64 (of_z w64 c.args.from) ≡ c.args.from = search rules in
    let t : to_z w64 (of_z w64 c.args.to) ≡ c.args.to = search rules in
    let r : Err c.in_err-check.field-0.0 ≡ contact_answer a.o a.phase a.from a.to a.sines.now =
    contact-is a.o a.phase a.from a.to a.sines.now (Err c.in_err-check.field-0.0)
    (sym c.in_err-check.was ∙ c.check.ensures.answer ∙ checked-same a.o φ f t a.sines.now) _ refl in
    search (rules, r)

-- ---- where nothing was refused
pub overflow_cast-phase : goal.overflow_cast-phase
overflow_cast-phase c =
    let a = c.args in
    let φ : to_z w64 (of_z w64 c.args.phase) ≡ c.args.phase = search rules in
    let f : to_z w64 (of_z w64 c.args.from) ≡ c.args.from = search rules in
    let t : to_z w64 (of_z w64 c.args.to) ≡ c.args.to = search rules in
    let h = held a.o φ f t a.sines.now c.check.ensures.answer c.in_ok-check.was in
    as_natural a.phase c.ranges.phase h.phase.0

pub nth_phase-kind-requires : goal.nth_phase-kind-requires
nth_phase-kind-requires c =
    let a = c.args in
    let φ : to_z w64 (of_z w64 c.args.phase) ≡ c.args.phase = search rules in
    let f : to_z w64 (of_z w64 c.args.from) ≡ c.args.from = search rules in
    let t : to_z w64 (of_z w64 c.args.to) ≡ c.args.to = search rules in
    let h = held a.o φ f t a.sines.now c.check.ensures.answer c.in_ok-check.was in
    rw φ h.phase.1

pub contact-requires : goal.contact-requires
contact-requires c =
    let a = c.args in
    let φ : to_z w64 (of_z w64 c.args.phase) ≡ c.args.phase = search rules in
    let f : to_z w64 (of_z w64 c.args.from) ≡ c.args.from = search rules in
    let t : to_z w64 (of_z w64 c.args.to) ≡ c.args.to = search rules in
    let h = held a.o φ f t a.sines.now c.check.ensures.answer c.in_ok-check.was in
    let z = window-sizes (record { first = a.from; last = a.to }) h.window in (
      subst Sines (sym (c.check.ensures.sines ∙ sines-same a.o φ f t a.sines.now)) h.table,
      h.limits,
      read-size a.from 10800 z.0 tt,
      read-size a.to 10800 z.1 tt,
      rw (f, t) h.window.ordered,
    )

pub returns-clause-answer : goal.returns-clause-answer
returns-clause-answer c =
    let a = c.args in
    let φ : to_z w64 (of_z w64 c.args.phase) ≡ c.args.phase = search rules in
    let f : to_z w64 (of_z w64 c.args.from) ≡ c.args.from = search rules in
    let t : to_z w64 (of_z w64 c.args.to) ≡ c.args.to = search rules in
    let p : c.nth_phase-kind.result ≡ phase_at a.o.body (to_z w64 (of_z w64 c.args.phase)) = c.nth_phase-kind.ensures in
    let b = rw p at c.contact.ensures in
    contact-is a.o a.phase a.from a.to a.sines.now (Ok tt)
    (sym c.in_ok-check.was ∙ c.check.ensures.answer ∙ checked-same a.o φ f t a.sines.now) _
    (c.ok_or.ensures.value ∙ found-is c.contact.result ∙ ap found (b ∙ bracket-same a.o φ f t))
