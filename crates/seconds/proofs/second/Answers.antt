-- `seconds::second` meets its contract: the second's own limits, then the request and its buffer, then the second
-- itself; what its states mean follows from the answer alone.
use Rattle.std.proofs.Common.{◌≡◌, refl, sym, ap, ◌∙◌, rules, true, false, Ok, Err, w64, to_z, of_z}
use Rattle.rounding.specs.laws.Code.{read-size}
use Rattle.requests.specs.Windows.{in_span}
use Rattle.requests.specs.WindowLaws.{in-span}
use Rattle.requests.specs.Admission.{sines_after}
use Rattle.requests.proofs.laws.AdmissionLaws.{admitted-within}
use Rattle.seconds.specs.OneSecond.{whole_second, second_answer}
use Rattle.seconds.proofs.laws.SecondLaws.{second-outside, second-inside, second_is}
use Rattle.seconds.proofs.second.Goals as goal

-- ---- a second that no window may have
pub returns-then-not-inside-clause-answer : goal.returns-then-not-inside-clause-answer
returns-then-not-inside-clause-answer c =
    let q : to_z w64 (of_z w64 c.args.t) ≡ c.args.t = search rules in
    let h : in_span c.args.t ≡ false = cc in
    (second_is c.args.o c.args.t _ _ (second-outside _ _ _ h) _ _ refl refl).0

pub returns-then-not-inside-clause-sines : goal.returns-then-not-inside-clause-sines
returns-then-not-inside-clause-sines c =
    let q : to_z w64 (of_z w64 c.args.t) ≡ c.args.t = search rules in
    let h : in_span c.args.t ≡ false = cc in
    (second_is c.args.o c.args.t c.args.sines.now _ (second-outside _ _ _ h) _ _ refl refl).1.0

-- ---- what is not admitted
pub returns-in_err-admit-clause-answer : goal.returns-in_err-admit-clause-answer
returns-in_err-admit-clause-answer c =
    let q : to_z w64 (of_z w64 c.args.t) ≡ c.args.t = search rules in
    let h : in_span c.args.t ≡ true = cc in
    let e = sym c.admit.ensures.answer ∙ c.in_err-admit.was in
    let r : Err c.in_err-admit.field-0.0 ≡ second_answer c.args.o c.args.t c.args.sines.now =
    (second_is _ _ _ _ (second-inside _ _ _ h ∙ e) _ _ refl refl).0 in
    search (rules, r)

pub returns-in_err-admit-clause-sines : goal.returns-in_err-admit-clause-sines
returns-in_err-admit-clause-sines c =
    let q : to_z w64 (of_z w64 c.args.t) ≡ c.args.t = search rules in
    let h : in_span c.args.t ≡ true = cc in
    let e = sym c.admit.ensures.answer ∙ c.in_err-admit.was in
    (second_is c.args.o c.args.t _ _ (second-inside _ _ _ h ∙ e) _ _ refl
    (c.admit.ensures.sines ∙ ap (λ k. sines_after k c.args.sines.now) e)).1.0

-- ---- the second
pub second_within-x-requires : goal.second_within-x-requires
second_within-x-requires c =
    let q : to_z w64 (of_z w64 c.args.t) ≡ c.args.t = search rules in
    let h : in_span c.args.t ≡ true = cc in
    let w = admitted-within c.args.o c.args.sines.now (sym c.admit.ensures.answer ∙ c.in_ok-admit.was) in
    (rw c.admit.ensures.sines w.1, w.0, read-size c.args.t 10800 (in-span c.args.t h) tt)

pub returns-clause-answer : goal.returns-clause-answer
returns-clause-answer c =
    let q : to_z w64 (of_z w64 c.args.t) ≡ c.args.t = search rules in
    let h : in_span c.args.t ≡ true = cc in
    let e = sym c.admit.ensures.answer ∙ c.in_ok-admit.was in
    (second_is c.args.o c.args.t c.args.sines.now _ (second-inside _ _ _ h ∙ e) _ _
    (ap Ok (c.second_within-x.ensures ∙ ap (whole_second c.args.o) q)) refl).0

pub returns-clause-sines : goal.returns-clause-sines
returns-clause-sines c =
    let q : to_z w64 (of_z w64 c.args.t) ≡ c.args.t = search rules in
    let h : in_span c.args.t ≡ true = cc in
    let e = sym c.admit.ensures.answer ∙ c.in_ok-admit.was in
    (second_is c.args.o c.args.t _ _ (second-inside _ _ _ h ∙ e) _ _ refl
    (c.admit.ensures.sines ∙ ap (λ k. sines_after k c.args.sines.now) e)).1.0

pub returns-clause-means : goal.returns-clause-means
returns-clause-means c =
    let q : to_z w64 (of_z w64 c.args.t) ≡ c.args.t = search rules in
    let h : in_span c.args.t ≡ true = cc in
    let e = sym c.admit.ensures.answer ∙ c.in_ok-admit.was in
    (second_is c.args.o c.args.t c.args.sines.now _ (second-inside _ _ _ h ∙ e) (Ok c.second_within-x.result) _
    (ap Ok (c.second_within-x.ensures ∙ ap (whole_second c.args.o) q)) refl).1.1
