-- `circumstances::sheet` meets its contract: a refusal of the request or of its buffer for table S is passed on with
-- the sheet's buffer unchanged; else `sheet_within` answers from the filled table. Demand 3 then follows from the
-- answer and the buffer alone (Claims).
use Rattle.std.specs.Prelude.{List, ℕ, Result}
use Rattle.std.proofs.Common.{◌≡◌, refl, sym, ap, ◌∙◌, rules, Err, Ok}
use Rattle.sheet_types.specs.declared.refusals.Refusal.{Refusal}
use Rattle.requests.specs.declared.Occultation.{Occultation}
use Rattle.requests.specs.Admission.{admitted, sines_after}
use Rattle.requests.proofs.laws.AdmissionLaws.{admitted-within}
use Rattle.circumstances.specs.Sheet.{answer_within, buffer_within, sheet_answer, sheet_buffer, sheet_sines}
use Rattle.circumstances.specs.Demand3.{Claimed}
use Rattle.circumstances.specs.laws.Claims.{sheet-is}
use Rattle.circumstances.proofs.sheet.Goals as goal

-- what the rules say of an answer and of what it left
abbrev Is : Occultation → (sines old : List ℕ) → Result ℕ Refusal → (new room : List ℕ) → Type 0
Is o sines old r new room =
    (r ≡ sheet_answer o sines old) × ((new ≡ sheet_buffer o sines old) × ((room ≡ sheet_sines o sines) × Claimed o r new))

module _ (o : Occultation) (sines old : List ℕ) (a : Result Unit Refusal) (room : List ℕ) (from : a ≡ admitted o sines) (left : room ≡ sines_after (admitted o sines) sines) where
  refused : (r : Refusal) → a ≡ Err r → Is o sines old (Err r) old room
  refused r e =
      let t : admitted o sines ≡ Err r = sym from ∙ e in
      sheet-is o sines old (Err r) t (Err r) old room refl refl (left ∙ ap (λ k. sines_after k sines) t)

  within : (u : Unit) → a ≡ Ok u → (r : Result ℕ Refusal) (new : List ℕ) → r ≡ answer_within o old → new ≡ buffer_within o old → Is o sines old r new room
  within tt e r new er en =
      let t : admitted o sines ≡ Ok tt = sym from ∙ e in
      sheet-is o sines old (Ok tt) t r new room er en (left ∙ ap (λ k. sines_after k sines) t)

-- ---- the request or the buffer for table S was refused
pub returns-in_err-admit-clause-answer : goal.returns-in_err-admit-clause-answer
returns-in_err-admit-clause-answer c =
    let r : Err c.in_err-admit.field-0.0 ≡ sheet_answer c.args.o c.args.sines.now c.args.buf.now = (refused _ _ c.args.buf.now _ c.admit.new.sines c.admit.ensures.answer c.admit.ensures.sines _ c.in_err-admit.was).0 in
    search (rules, r)

pub returns-in_err-admit-clause-buffer : goal.returns-in_err-admit-clause-buffer
returns-in_err-admit-clause-buffer c = (refused _ _ _ _ _ c.admit.ensures.answer c.admit.ensures.sines _ c.in_err-admit.was).1.0

pub returns-in_err-admit-clause-sines : goal.returns-in_err-admit-clause-sines
returns-in_err-admit-clause-sines c = (refused _ _ c.args.buf.now _ _ c.admit.ensures.answer c.admit.ensures.sines _ c.in_err-admit.was).1.1.0

pub returns-in_err-admit-clause-demand3 : goal.returns-in_err-admit-clause-demand3
returns-in_err-admit-clause-demand3 c =
    let r : Claimed c.args.o (Err c.in_err-admit.field-0.0) c.args.buf.now = (refused _ c.args.sines.now c.args.buf.now _ c.admit.new.sines c.admit.ensures.answer c.admit.ensures.sines _ c.in_err-admit.was).1.1.1 in
    search (rules, r)

-- ---- the request was admitted
pub sheet_within-requires : goal.sheet_within-requires
sheet_within-requires c =
    let w = admitted-within c.args.o c.args.sines.now (sym c.admit.ensures.answer ∙ c.in_ok-admit.was) in
    (rw c.admit.ensures.sines w.1, w.0)

pub returns-clause-answer : goal.returns-clause-answer
returns-clause-answer c = (within _ _ _ _ _ c.admit.ensures.answer c.admit.ensures.sines _ c.in_ok-admit.was _ _ c.sheet_within.ensures.value c.sheet_within.ensures.buf_after).0

pub returns-clause-buffer : goal.returns-clause-buffer
returns-clause-buffer c = (within _ _ _ _ _ c.admit.ensures.answer c.admit.ensures.sines _ c.in_ok-admit.was _ _ c.sheet_within.ensures.value c.sheet_within.ensures.buf_after).1.0

pub returns-clause-sines : goal.returns-clause-sines
returns-clause-sines c = (within _ _ c.args.buf.now _ _ c.admit.ensures.answer c.admit.ensures.sines _ c.in_ok-admit.was _ _ c.sheet_within.ensures.value c.sheet_within.ensures.buf_after).1.1.0

pub returns-clause-demand3 : goal.returns-clause-demand3
returns-clause-demand3 c = (within _ c.args.sines.now _ _ _ c.admit.ensures.answer c.admit.ensures.sines _ c.in_ok-admit.was _ _ c.sheet_within.ensures.value c.sheet_within.ensures.buf_after).1.1.1
