-- Whatever `contact_times::contact_at` answers is true (`answer-true`), of a request with any guard: the two hundredths
-- are between its two seconds, in order, and the station is truly outside at the one and truly inside at the other.
use Rattle.std.proofs.Math.Path.{◌≡◌, refl}
use Rattle.std.proofs.Common.{◌∙◌, inl, inr, arith, Some, Ok, Option, None, Result, Err}
use Rattle.std.specs.Prelude.{List, ◌⊎◌, ℕ, ◌+◌, ◌≤◌, ℤ, pos, nat_abs, ◌*ℤ◌}
use Rattle.sheet_types.specs.declared.refusals.Refusal.{Refusal}
use Rattle.sheet_types.specs.declared.phases.Phase.{Phase}
use Rattle.sheet_types.specs.States.{State, inside, outside, unsure, code}
use Rattle.rounding.specs.laws.Order.{≤ℤ_trans, <ℤ-≤}
use Rattle.requests.specs.declared.windows.Window.{Window}
use Rattle.requests.specs.WindowLaws.{WindowHolds, window-sizes}
use Rattle.requests.specs.declared.Occultation.{Occultation}
use Rattle.requests.specs.RequestLaws.{InLimits}
use Rattle.contact_times.specs.Brackets.{state_at, bracket_of}
use Rattle.contact_times.specs.Contacts.{crossing, phase_at, found, contact_checked, contact_by, contact_answer}
use Rattle.contact_times.proofs.laws.ContactLaws.{contact-within}
use Rattle.contact_times.specs.laws.EndLaws.{Ends, bracket-ends, bracket-contact, contact-order}
use Rattle.sky_accuracy.specs.TruePlace.{TrueC}
use Rattle.sky_accuracy.specs.TrueContacts.{InsideAt, OutsideAt, AnswerTrue}
use Rattle.sky_accuracy.proofs.laws.TrueBrackets.{inside-at, outside-at, in-span, later}

-- two states of which one is outside and the other inside
either : (s t : State) → code s + code t ≡ 1 → ((s ≡ outside) × (t ≡ inside)) ⊎ ((s ≡ inside) × (t ≡ outside))
either outside inside e = inl (refl, refl)
either inside outside e = inr (refl, refl)
either outside outside e = absurd (omega arith)
either inside inside e = absurd (omega arith)
either outside unsure e = absurd (omega arith)
either inside unsure e = absurd (omega arith)
either unsure outside e = absurd (omega arith)
either unsure inside e = absurd (omega arith)
either unsure unsure e = absurd (omega arith)

module _ (o : Occultation) (c : TrueC o.station.latitude) (φ : Phase) (from to a b : ℤ) where
  within : InLimits o → WindowHolds (record { first = from; last = to }) → bracket_of (crossing o φ) from to ≡ Some (a, b) → AnswerTrue o c φ from to a b
  within i h g =
      let w : Window = record { first = from; last = to } in
      let z = window-sizes w h in
      let l = contact-order (crossing o φ) from to (bracket-contact (crossing o φ) from to a b g) h.ordered in
      let e = bracket-ends (crossing o φ) from to (later o c i φ from to z.0 z.1 l) a b g in
      let ha = in-span o c i φ from to z.0 z.1 l a e.least (≤ℤ_trans (<ℤ-≤ e.order) e.most) in
      let hb = in-span o c i φ from to z.0 z.1 l b (≤ℤ_trans e.least (<ℤ-≤ e.order)) e.most in
      record {
        least = e.least;
        order = e.order;
        most = e.most;
        contact = by i ha hb e (either (state_at (crossing o φ) (from *ℤ pos 100)) (state_at (crossing o φ) (to *ℤ pos 100)) e.contact);
      }
    where
      by : InLimits o → nat_abs a ≤ 1_080_000 → nat_abs b ≤ 1_080_000 → Ends (crossing o φ) from to a b
          → ((state_at (crossing o φ) (from *ℤ pos 100) ≡ outside) × (state_at (crossing o φ) (to *ℤ pos 100) ≡ inside))
          ⊎ ((state_at (crossing o φ) (from *ℤ pos 100) ≡ inside) × (state_at (crossing o φ) (to *ℤ pos 100) ≡ outside))
          → (OutsideAt o c φ a × InsideAt o c φ b) ⊎ (InsideAt o c φ a × OutsideAt o c φ b)
      by i ha hb e (inl s) = inl (outside-at o c i φ a ha (e.before ∙ s.0), inside-at o c i φ b hb (e.after ∙ s.1))
      by i ha hb e (inr s) = inr (inside-at o c i φ a ha (e.before ∙ s.0), outside-at o c i φ b hb (e.after ∙ s.1))

-- the phase by its number, as `contact_at` takes it
module _ (o : Occultation) (c : TrueC o.station.latitude) (φ from to a b : ℤ) where
  pub answer-true : (sines : List ℕ) → contact_answer o φ from to sines ≡ Ok (a, b) → AnswerTrue o c (phase_at o.body φ) from to a b
  unfolding contact_answer
  answer-true sines g = by-check (contact_checked o φ from to sines) refl g
    where
      by-bracket : (k : Option (ℤ × ℤ)) → bracket_of (crossing o (phase_at o.body φ)) from to ≡ k → found k ≡ Ok (a, b)
          → bracket_of (crossing o (phase_at o.body φ)) from to ≡ Some (a, b)
      by-bracket (Some (p, q)) e g = cc
      by-bracket None e g = let z : ◌≡◌ {A = ℕ} 0 1 = cc in absurd (omega arith)

      by-check : (k : Result Unit Refusal) → contact_checked o φ from to sines ≡ k → contact_by k o φ from to ≡ Ok (a, b) → AnswerTrue o c (phase_at o.body φ) from to a b
      by-check (Err r) e g = let z : ◌≡◌ {A = ℕ} 0 1 = cc in absurd (omega arith)
      by-check (Ok tt) e g =
          let h = contact-within o φ from to sines e in
          within o c (phase_at o.body φ) from to a b h.limits h.window (by-bracket (bracket_of (crossing o (phase_at o.body φ)) from to) refl g)
