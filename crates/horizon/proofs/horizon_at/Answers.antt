-- `horizon::horizon_at` meets its contract: the second's own limits, then the request and its buffer, then the
-- horizon itself.
use Rattle.std.proofs.Common.{◌≡◌, sym, ap, ◌∙◌, rules, true, false, List, ℕ, ℤ, Result, Ok, Err, w64, to_z, of_z}
use Rattle.rounding.specs.laws.Code.{read-size}
use Rattle.sheet_types.specs.declared.refusals.Refusal.{Refusal}
use Rattle.requests.specs.Windows.{in_span}
use Rattle.requests.specs.WindowLaws.{in-span}
use Rattle.requests.specs.declared.Occultation.{Occultation}
use Rattle.requests.specs.Admission.{sines_after}
use Rattle.requests.proofs.laws.AdmissionLaws.{admitted-within}
use Rattle.seconds.specs.OneSecond.{second_checked, second_sines}
use Rattle.seconds.proofs.laws.SecondLaws.{second-outside, second-inside}
use Rattle.horizon.specs.Horizon.{horizon_at, horizon_by, horizon_answer, horizon_sines}
use Rattle.horizon.proofs.horizon_at.Goals as goal

-- what a check gives: the answer and the buffer
module _ (o : Occultation) (τ : ℤ) (sines : List ℕ) (c : Result Unit Refusal) (e : second_checked o τ sines ≡ c) where
  answered : horizon_by c o τ ≡ horizon_answer o τ sines
  unfolding horizon_answer
  answered = ap (λ (k : Result Unit Refusal). horizon_by k o τ) (sym e)

  left : sines_after c sines ≡ horizon_sines o τ sines
  unfolding second_sines
  left = ap (λ (k : Result Unit Refusal). sines_after k sines) (sym e)

-- ---- a second that no window may have
pub returns-then-not-inside-clause-answer : goal.returns-then-not-inside-clause-answer
returns-then-not-inside-clause-answer c =
    let q : to_z w64 (of_z w64 c.args.t) ≡ c.args.t = search rules in
    let h : in_span c.args.t ≡ false = cc in
    answered c.args.o c.args.t _ _ (second-outside _ _ _ h)

pub returns-then-not-inside-clause-sines : goal.returns-then-not-inside-clause-sines
returns-then-not-inside-clause-sines c =
    let q : to_z w64 (of_z w64 c.args.t) ≡ c.args.t = search rules in
    let h : in_span c.args.t ≡ false = cc in
    left c.args.o c.args.t c.args.sines.now _ (second-outside _ _ _ h)

-- ---- what is not admitted
pub returns-in_err-admit-clause-answer : goal.returns-in_err-admit-clause-answer
returns-in_err-admit-clause-answer c =
    let q : to_z w64 (of_z w64 c.args.t) ≡ c.args.t = search rules in
    let h : in_span c.args.t ≡ true = cc in
    let r : Err c.in_err-admit.field-0.0 ≡ horizon_answer c.args.o c.args.t c.args.sines.now =
    answered _ _ _ _ (second-inside _ _ _ h ∙ (sym c.admit.ensures.answer ∙ c.in_err-admit.was)) in
    search (rules, r)

pub returns-in_err-admit-clause-sines : goal.returns-in_err-admit-clause-sines
returns-in_err-admit-clause-sines c =
    let q : to_z w64 (of_z w64 c.args.t) ≡ c.args.t = search rules in
    let h : in_span c.args.t ≡ true = cc in
    c.admit.ensures.sines ∙ left c.args.o c.args.t c.args.sines.now _ (second-inside _ _ _ h)

-- ---- the horizon
pub horizon_within-x-requires : goal.horizon_within-x-requires
horizon_within-x-requires c =
    let q : to_z w64 (of_z w64 c.args.t) ≡ c.args.t = search rules in
    let h : in_span c.args.t ≡ true = cc in
    let w = admitted-within c.args.o c.args.sines.now (sym c.admit.ensures.answer ∙ c.in_ok-admit.was) in
    (rw c.admit.ensures.sines w.1, w.0, read-size c.args.t 10800 (in-span c.args.t h) tt)

pub returns-clause-answer : goal.returns-clause-answer
returns-clause-answer c =
    let q : to_z w64 (of_z w64 c.args.t) ≡ c.args.t = search rules in
    let h : in_span c.args.t ≡ true = cc in
    ap Ok (c.horizon_within-x.ensures ∙ ap (horizon_at c.args.o) q)
    ∙ answered c.args.o c.args.t c.args.sines.now (Ok tt)
    (second-inside _ _ _ h ∙ (sym c.admit.ensures.answer ∙ c.in_ok-admit.was))

pub returns-clause-sines : goal.returns-clause-sines
returns-clause-sines c =
    let q : to_z w64 (of_z w64 c.args.t) ≡ c.args.t = search rules in
    let h : in_span c.args.t ≡ true = cc in
    c.admit.ensures.sines ∙ left c.args.o c.args.t c.args.sines.now _ (second-inside _ _ _ h)
