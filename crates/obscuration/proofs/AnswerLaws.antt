-- What is answered means what it says, and how the code comes to it.
--   means-answer    the answer means what it says
--   answered-sizes  a second that is answered has L1, L2 and M within the sizes of `share`
use Rattle.std.specs.Prelude.{◌≡◌, Bool, true, false, List, ℕ, ◌≤◌, ℤ, Result, Err, Ok}
use Rattle.std.proofs.Math.Path.{refl}
use Rattle.std.proofs.Common.{sym}
use Rattle.std.proofs.Math.IntN.{nat_abs}
use Rattle.shadow.specs.declared.Second.{Second}
use Rattle.sheet_types.specs.declared.refusals.Refusal.{Refusal}
use Rattle.sheet_types.specs.Refusals.{refusal}
use Rattle.station.specs.Place.{place_of}
use Rattle.requests.specs.declared.Request.{Request}
use Rattle.requests.specs.Requests.{of_eclipse}
use Rattle.requests.specs.Windows.{in_span}
use Rattle.requests.specs.WindowLaws.{in-span}
use Rattle.requests.specs.RequestLaws.{InLimits}
use Rattle.requests.specs.Admission.{admitted}
use Rattle.requests.proofs.laws.AdmissionLaws.{admitted-within}
use Rattle.seconds.specs.OneSecond.{second_by, second_checked, second_answer}
use Rattle.seconds.proofs.laws.SecondLaws.{placed, second-outside, second-inside}
use Rattle.obscuration.proofs.laws.CoveredLaws.{share-at, sizes-at, share_means}
use Rattle.obscuration.specs.Answer.{share_by, share_answer, AnswerMeans}
use Rattle.obscuration.specs.AnswerLaws.{AnsweredSizes}

module _ (q : Request) (τ : ℤ) (sines : List ℕ) where
  -- what holds of the refusals, and of the second of a request within its limits, holds of the answer
  either : (P : Result Second Refusal → Type 0) → ((r : Refusal) → P (Err r)) → (InLimits (of_eclipse q) → nat_abs τ ≤ 10800 → P (second_by (Ok tt) (of_eclipse q) τ))
      → P (second_answer (of_eclipse q) τ sines)
  unfolding second_answer
  either P refused within = by_span (in_span τ) refl
    where
      by-check : (c : Result Unit Refusal) → admitted (of_eclipse q) sines ≡ c → nat_abs τ ≤ 10800 → P (second_by c (of_eclipse q) τ)
      by-check (Err r) e h = refused r
      by-check (Ok tt) e h = within (admitted-within (of_eclipse q) sines e).0 h

      by_span : (b : Bool) → in_span τ ≡ b → P (second_by (second_checked (of_eclipse q) τ sines) (of_eclipse q) τ)
      by_span true e = rw (second-inside (of_eclipse q) τ sines e) (by-check (admitted (of_eclipse q) sines) refl (in-span τ e))
      by_span false e = rw (second-outside (of_eclipse q) τ sines e) (refused (refusal 1 0))

  pub answered-sizes : AnsweredSizes (second_answer (of_eclipse q) τ sines)
  answered-sizes = either AnsweredSizes (λ r. tt) (λ i h. sizes-at q.elements i.body (place_of q.station) (placed (of_eclipse q) i) τ h)

  pub means-answer : AnswerMeans q τ (share_answer q τ sines)
  unfolding share_answer
  means-answer =
      either (λ (x : Result Second Refusal). AnswerMeans q τ (share_by x)) (λ r. tt)
      (λ i h.
      let is = share-at q.elements (place_of q.station) τ in
      (sym is, rw (← is) (share_means q i τ h)))
