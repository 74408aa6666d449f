-- A phase of an occultation within its limits has the sizes that the search takes (`crossing_sizes`); the larger of a
-- guard and 32 (`used-..`); and the ways of an answer (`contact-window`, .. `contact-within`).
use Rattle.std.specs.Prelude.{◌≡◌, Bool, ◌&&◌, List, ℕ, ◌≤◌, ◌<◌, T, ℤ, pos, nat_abs, ◌≤ℤ◌, Err, Ok, Result}
use Rattle.std.proofs.Math.Path.{refl, subst, ap}
use Rattle.std.proofs.Common.{sym, ◌∙◌, arith, lit≤, to_z, of_z, Fits, SFits}
use Rattle.std.proofs.Math.Bool.{true, false, cond}
use Rattle.std.proofs.Math.Dec.{ltb}
use Rattle.std.proofs.Math.ListN.{length}
use Rattle.std.specs.Int.Signed.{le_z, lt_z, le_z_yes, clash_ℤ, non_neg, yes_non_neg, nat_abs-le}
use Rattle.std.specs.Int.{w64}
use Rattle.std.proofs.lemmas.Int.{to_z-of_z}
use borrow.Author.Tests.{ltb-true, lt-ltb, le-ltb}
use Rattle.sheet_types.specs.declared.phases.Phase.{Phase}
use Rattle.sheet_types.specs.declared.refusals.Refusal.{Refusal}
use Rattle.sheet_types.specs.Refusals.{refusal, andThen}
use Rattle.sheet_types.specs.laws.RefusalLaws.{both-within, not_within}
use Rattle.rounding.specs.laws.Order.{nat_abs_between, lt_z_true, lt_z_false, le_z_true, ≤ℤ_refl}
use Rattle.sine_table.specs.Table.{Sines}
use Rattle.sine_table.specs.laws.RoomLaws.{filled-sines}
use Rattle.elements.specs.declared.Body.{Body}
use Rattle.elements.specs.Sizes.{wider_axis}
use Rattle.elements.specs.StarLaws.{axis_sizes}
use Rattle.station.proofs.laws.PlaceLaws.{place_sizes}
use Rattle.shadow_geometry.specs.Shadow.{phases_of}
use Rattle.requests.specs.declared.windows.Window.{Window}
use Rattle.requests.specs.declared.Occultation.{Occultation}
use Rattle.requests.specs.Requests.{checked}
use Rattle.requests.specs.RequestLaws.{InLimits, in-limits}
use Rattle.requests.specs.Windows.{window_holds}
use Rattle.requests.specs.WindowLaws.{WindowHolds, window-holds}
use Rattle.requests.specs.Admission.{room_checked, sines_after}
use Rattle.contact_times.specs.Sizes.{CrossingSizes}
use Rattle.contact_times.specs.laws.SecondStates.{cone_sizes}
use Rattle.contact_times.specs.Contacts.{used_guard, crossing, phase_holds, phase_checked, contact_checked, contact_by, contact_answer, contact_sines}

-- ---- the guard
module _ (g : ℤ) where
  pub used-least : pos 32 ≤ℤ used_guard g
  used-least = by-test (lt_z g (pos 32)) refl
    where
      by-test : (t : Bool) → lt_z g (pos 32) ≡ t → pos 32 ≤ℤ cond t (pos 32) g
      by-test true e = ≤ℤ_refl (pos 32)
      by-test false e = lt_z_false g (pos 32) e

  pub used-same : pos 32 ≤ℤ g → used_guard g ≡ g
  used-same h = by-test (lt_z g (pos 32)) refl
    where
      by-test : (t : Bool) → lt_z g (pos 32) ≡ t → cond t (pos 32) g ≡ g
      by-test true e = clash_ℤ (lt_z_true g (pos 32) e) h
      by-test false e = refl

  used-most : g ≤ℤ pos 1000 → used_guard g ≤ℤ pos 1000
  used-most h = by-test (lt_z g (pos 32))
    where
      by-test : (t : Bool) → cond t (pos 32) g ≤ℤ pos 1000
      by-test true = le_z_yes tt
      by-test false = h

pub crossing_sizes : (o : Occultation) → InLimits o → (φ : Phase) → CrossingSizes (crossing o φ)
crossing_sizes o i φ =
    record {
      axis = wider_axis (axis_sizes o.body i.body) (lit≤ tt);
      cone = cone_sizes o.body i.body φ;
      place = place_sizes o.station i.station;
      guard = nat_abs_between (used_guard o.guard) 32 (used-least o.guard) (used-most o.guard i.guard.high);
    }

-- ---- the phase
-- a number that is not negative, read from its bits, as a natural number
pub as_natural : (z : ℤ) → SFits w64 z → pos 0 ≤ℤ z → T (non_neg (to_z w64 (of_z w64 z))) × Fits w64 (nat_abs (to_z w64 (of_z w64 z)))
as_natural z f h = rw (to_z-of_z w64 z f) (yes_non_neg h, record { fits = omega (arith, nat_abs-le z f.sfits) })

module _ (b : Body) (φ : ℤ) where
  pub phase-negative : le_z (pos 0) φ ≡ false → Err (refusal 22 0) ≡ phase_checked b φ
  unfolding phase_checked phase_holds
  phase-negative e = rw e

  module _ (e : le_z (pos 0) φ ≡ true) where
    pub phase-beyond : length (phases_of b) ≤ nat_abs φ → Err (refusal 22 0) ≡ phase_checked b φ
    unfolding phase_checked phase_holds
    phase-beyond h = rw (e, le-ltb (nat_abs φ) (length (phases_of b)) h)

    pub phase-within : nat_abs φ < length (phases_of b) → (Ok tt) ≡ phase_checked b φ
    unfolding phase_checked phase_holds
    phase-within h = rw (e, lt-ltb (nat_abs φ) (length (phases_of b)) h)

  pub phase-held : phase_checked b φ ≡ Ok tt → (pos 0 ≤ℤ φ) × (nat_abs φ < length (phases_of b))
  unfolding phase_checked phase_holds
  phase-held e = by_tests (le_z (pos 0) φ) (ltb (nat_abs φ) (length (phases_of b))) refl refl e
    where
      by_tests : (s t : Bool) → le_z (pos 0) φ ≡ s → ltb (nat_abs φ) (length (phases_of b)) ≡ t
          → ◌≡◌ {A = Result Unit Refusal} (cond (s && t) (Ok tt) (Err (refusal 22 0))) (Ok tt) → (pos 0 ≤ℤ φ) × (nat_abs φ < length (phases_of b))
      by_tests true true f g e = (le_z_true (pos 0) φ f, ltb-true (nat_abs φ) (length (phases_of b)) g)
      by_tests true false f g e = absurd (not_within e)
      by_tests false t f g e = absurd (not_within e)

-- ---- the answer
module _ (o : Occultation) (φ from to : ℤ) (sines : List ℕ) where
  abbrev asked : Window
  asked = record { first = from; last = to }

  -- a check, and the buffer after it
  abbrev pub Checks : Result Unit Refusal → (left : List ℕ) → Type 0
  Checks c left = (c ≡ contact_checked o φ from to sines) × (left ≡ contact_sines o φ from to sines)

  pub contact-window : window_holds asked ≡ false → Checks (Err (refusal 1 0)) sines
  unfolding contact_sines contact_checked
  contact-window w = rw w (refl, refl)

  module _ (w : window_holds asked ≡ true) where
    pub contact-request : (r : Refusal) → checked o ≡ Err r → Checks (Err r) sines
    unfolding contact_sines contact_checked
    contact-request r e = rw (w, e) (refl, refl)

    module _ (e : checked o ≡ Ok tt) where
      pub contact-phase : (r : Refusal) → phase_checked o.body φ ≡ Err r → Checks (Err r) sines
      unfolding contact_sines contact_checked
      contact-phase r f = rw (w, e, f) (refl, refl)

      pub contact-room : phase_checked o.body φ ≡ Ok tt → Checks (room_checked sines) (sines_after (room_checked sines) sines)
      unfolding contact_sines contact_checked
      contact-room f = rw (w, e, f) (refl, refl)

  -- nothing is refused before the states of the two seconds
  pub record Held : Type 0 where
    pub window : WindowHolds asked
    pub limits : InLimits o
    pub phase : (pos 0 ≤ℤ φ) × (nat_abs φ < length (phases_of o.body))
    pub table : Sines (contact_sines o φ from to sines)

  pub contact-within : contact_checked o φ from to sines ≡ Ok tt → Held
  unfolding contact_sines contact_checked
  contact-within e = by-window (window_holds asked) refl e
    where
      after : contact_checked o φ from to sines ≡ Ok tt → Sines (contact_sines o φ from to sines)
      after e = subst (λ (c : Result Unit Refusal). Sines (sines_after c sines)) (sym e) (filled-sines sines)

      by-window : (t : Bool) → window_holds asked ≡ t
          → ◌≡◌ {A = Result Unit Refusal} (cond t (andThen (checked o) (andThen (phase_checked o.body φ) (room_checked sines))) (Err (refusal 1 0))) (Ok tt) → Held
      by-window false w f = absurd (not_within f)
      by-window true w f =
          let p = both-within (checked o) (andThen (phase_checked o.body φ) (room_checked sines)) f in
          let q = both-within (phase_checked o.body φ) (room_checked sines) p.1 in
          record { window = window-holds asked w; limits = in-limits o p.0; phase = phase-held o.body φ q.0; table = after e }

  -- what is answered, by the check
  pub contact-is : (c : Result Unit Refusal) → c ≡ contact_checked o φ from to sines → (r : Result (ℤ × ℤ) Refusal) → r ≡ contact_by c o φ from to → r ≡ contact_answer o φ from to sines
  unfolding contact_answer
  contact-is c e r f = f ∙ ap (λ (k : Result Unit Refusal). contact_by k o φ from to) e
