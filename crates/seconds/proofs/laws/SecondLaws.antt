-- What callers use of the seconds of an occultation within its limits, and of one second.
--   states_length                                      a byte for each second
--   direction_small, magnitude-small, closest-within   what a reader asks of them
--   star-magnitude                                     of a star it is 0
--   each-second                                        every second is said rightly
--   means-answer                                       so is one that was answered
--   second-outside, second-inside, second_is           the ways of an answer
use Rattle.std.specs.Prelude.{◌≡◌, ◌⊎◌, Bool, true, false, cond, List, ℕ, ◌≤◌, ◌<◌, ◌+ℤ◌, ◌-ℤ◌, length, Err, Result, Ok}
use Rattle.std.proofs.Math.Path.{refl, sym, subst, ap}
use Rattle.std.proofs.Common.{◌∙◌, arith, to_z, of_z}
use Rattle.std.proofs.Math.Dec.{lit≤}
use Rattle.std.proofs.Math.IntN.{ℤ, pos, nat_abs}
use Rattle.std.specs.Int.Signed.{le_z_yes}
use Rattle.std.specs.Int.{w64}
use Rattle.shadow.specs.declared.Second.{Second}
use Rattle.sheet_types.specs.declared.refusals.Refusal.{Refusal}
use Rattle.rounding.specs.laws.Order.{≤ℤ_trans}
use Rattle.rounding.specs.laws.Code.{read_back, read-size}
use Rattle.sheet_types.specs.declared.phases.Phase.{Phase}
use Rattle.sheet_types.specs.States.{state_of, code, SaidRightly}
use Rattle.sheet_types.specs.laws.PhaseLaws.{state_of_code}
use Rattle.sheet_types.specs.Refusals.{refusal}
use Rattle.elements.specs.declared.Body.{Body}
use Rattle.elements.specs.declared.Body.TheVariants as B
use Rattle.elements.specs.Stars.{axis_of}
use Rattle.elements.specs.StarLaws.{BodySizes}
use Rattle.station.specs.Place.{place_of}
use Rattle.station.specs.Sizes.{PlaceSizes}
use Rattle.station.proofs.laws.PlaceLaws.{place_sizes}
use Rattle.shadow_geometry.specs.Shadow.{cone, M}
use Rattle.shadow_geometry.specs.Exact as Exact
use Rattle.shadow.specs.laws.SecondLaws.{state-at, states-true, magnitude-most, direction-near}
use Rattle.requests.specs.declared.StarRequest.{StarRequest}
use Rattle.requests.specs.declared.Occultation.{Occultation}
use Rattle.requests.specs.Requests.{of_star}
use Rattle.requests.specs.Windows.{in_span, nth_second, second_count}
use Rattle.requests.specs.WindowLaws.{in-span, each-length}
use Rattle.requests.specs.RequestLaws.{InLimits, guard-is, guard_size}
use Rattle.requests.specs.Admission.{admitted, sines_after}
use Rattle.requests.proofs.laws.AdmissionLaws.{admitted-within}
use Rattle.seconds.specs.Seconds.{moment_at, state_at, direction_at, magnitude_of, magnitude_at, states_of, closestOf}
use Rattle.seconds.specs.laws.ClosestLaws.{closest-is}
use Rattle.seconds.specs.OneSecond.{first_phase, second_phase, whole_second, second_by, second_checked, second_answer, second_sines}
use Rattle.seconds.specs.Exact.{ExactlyInside, WithinUnits, unsure_units, SecondMeans, AnswerMeans}

pub states_length : (o : Occultation) (φ : Phase) → length (states_of o φ) ≡ second_count o.window
states_length o φ = each-length o.window (λ τ. code (state_at o φ τ))

pub direction_small : (o : Occultation) (τ : ℤ) → (direction_at o τ ≤ 3599) ⊎ (direction_at o τ ≡ 65535)
unfolding direction_at
direction_small o τ = direction-near (axis_of o.body) (place_of o.station) τ

module _ (o : Occultation) (i : InLimits o) where
  pub placed : PlaceSizes (place_of o.station)
  placed = place_sizes o.station i.station

  -- the guard, as the code reads it from its bits
  pub guard-read : (to_z w64 (of_z w64 o.guard) ≡ o.guard) × (nat_abs (to_z w64 (of_z w64 o.guard)) ≤ 1000)
  guard-read = let n = (guard_size i.guard).1 in (read_back o.guard n tt, read-size o.guard 1000 n tt)

  pub closest-within : closestOf o < second_count o.window
  unfolding closestOf second_count
  closest-within =
      omega (arith, (closest-is (λ k. M (moment_at o (nth_second o.window k))) (nat_abs (o.window.last -ℤ o.window.first))).within)

  module _ (τ : ℤ) (h : nat_abs τ ≤ 10800) where
    -- "It never exceeds 1,300,000."
    pub magnitude-small : magnitude_at o τ ≤ 1300000
    unfolding magnitude_at
    magnitude-small = by o.body i.body
      where
        by : (b : Body) → BodySizes b → magnitude_of o.guard b (place_of o.station) τ ≤ 1300000
        by (B.Sun e) z = magnitude-most e z (place_of o.station) placed τ h o.guard
        by (B.Star s) z = lit≤ tt

    pub each-second : (φ : Phase) → SaidRightly (state_at o φ τ) (ExactlyInside o φ τ) (WithinUnits o (unsure_units o) φ τ)
    unfolding state_at
    each-second φ =
        let m = states-true o.body i.body (place_of o.station) placed τ h o.guard (≤ℤ_trans (le_z_yes tt) i.guard.low) φ in
        let is = sym (state-at o.guard o.body (place_of o.station) φ τ) in
        let Near : ℤ → Type 0 = λ n. Exact.WithinUnits n φ (moment_at o τ) (cone o.body φ) in
        record {
          inside_is = λ s. m.inside_is (is ∙ s);
          outside-is = λ s. m.outside-is (is ∙ s);
          unsure-is = λ s. subst (λ (g : ℤ). Near (g +ℤ pos 13)) (sym (guard-is i.guard)) (m.unsure-is (is ∙ s));
        }

-- document 02, wish 7: "closest carries magnitude 0"
pub star-magnitude : (q : StarRequest) (τ : ℤ) → magnitude_at (of_star q) τ ≡ 0
unfolding magnitude_at
star-magnitude q τ = refl

-- ---- one second
module _ (o : Occultation) (i : InLimits o) (τ : ℤ) (h : nat_abs τ ≤ 10800) where
  -- of the byte that was answered
  said : (φ : Phase) → SaidRightly (state_of (code (state_at o φ τ))) (ExactlyInside o φ τ) (WithinUnits o (unsure_units o) φ τ)
  said φ = rw (state_of_code (state_at o φ τ)) (each-second o i τ h φ)

  second-means : SecondMeans o τ (whole_second o τ)
  second-means = record { penumbra = said (first_phase o); central = said (second_phase o) }

module _ (o : Occultation) (τ : ℤ) (sines : List ℕ) where
  pub second-outside : in_span τ ≡ false → second_checked o τ sines ≡ Err (refusal 1 0)
  unfolding second_checked
  second-outside e = rw e

  pub second-inside : in_span τ ≡ true → second_checked o τ sines ≡ admitted o sines
  unfolding second_checked
  second-inside e = rw e

  -- what was answered means what it says
  pub means-answer : AnswerMeans o τ (second_answer o τ sines)
  unfolding second_answer second_checked
  means-answer = by_span (in_span τ) refl
    where
      by-check : (c : Result Unit Refusal) → admitted o sines ≡ c → nat_abs τ ≤ 10800 → AnswerMeans o τ (second_by c o τ)
      by-check (Err r) e h = tt
      by-check (Ok tt) e h = second-means o (admitted-within o sines e).0 τ h

      by_span : (b : Bool) → in_span τ ≡ b → AnswerMeans o τ (second_by (cond b (admitted o sines) (Err (refusal 1 0))) o τ)
      by_span true e = by-check (admitted o sines) refl (in-span τ e)
      by_span false e = tt

  -- what a check gives: the answer, the buffer, and what the answer means
  pub second_is : (c : Result Unit Refusal) → second_checked o τ sines ≡ c → (r : Result Second Refusal) (new : List ℕ) → r ≡ second_by c o τ → new ≡ sines_after c sines
      → (r ≡ second_answer o τ sines) × ((new ≡ second_sines o τ sines) × AnswerMeans o τ r)
  unfolding second_answer second_sines
  second_is c e r new er en =
      let a : r ≡ second_answer o τ sines = er ∙ ap (λ (k : Result Unit Refusal). second_by k o τ) (sym e) in
      (a, (en ∙ ap (λ (k : Result Unit Refusal). sines_after k sines) (sym e), subst (AnswerMeans o τ) (sym a) means-answer))
