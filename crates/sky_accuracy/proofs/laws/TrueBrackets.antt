-- The true contact lies between the two hundredths of a bracket: where of two seconds one is outside and the other
-- inside, under the larger of the request's guard and 32, two hundredths are found between them, and the station is
-- truly outside at the one and truly inside at the other (`enters`, `leaves`). What is said at any hundredth is true
-- (`inside-at`, `outside-at`, `near-at`).
use Rattle.std.specs.Prelude.{◌≡◌, [], ◌∷◌, ◌+◌, ◌≤◌, ℤ, pos, nat_abs, ◌+ℤ◌, ◌*ℤ◌, ◌≤ℤ◌, ◌<ℤ◌}
use Rattle.std.proofs.Common.{◌∙◌, ap, arith, lit≤}
use Rattle.sheet_types.specs.declared.phases.Phase.{Phase}
use Rattle.sheet_types.specs.States.{State, inside, outside, unsure, code}
use Rattle.rounding.specs.laws.Order.{≤ℤ_trans, nat_abs_le, le_nat_abs, neg_nat_abs, <ℤ-≤}
use Rattle.rounding.specs.laws.Ring.{num, ◌⊗◌, opp, v0, v1}
use Rattle.rounding.specs.laws.Cert.{leq, less, lit, ◌⊞◌, ◌⊠◌, certify, certify-<}
use Rattle.station.specs.Place.{place_of}
use Rattle.shadow_geometry.specs.Shadow.{cone}
use Rattle.shadow.specs.Second as Second
use Rattle.requests.specs.declared.Occultation.{Occultation}
use Rattle.requests.specs.RequestLaws.{InLimits}
use Rattle.contact_times.specs.Parts.{hundredths}
use Rattle.contact_times.specs.Brackets.{state_at}
use Rattle.contact_times.specs.Contacts.{used_guard, crossing}
use Rattle.contact_times.proofs.laws.ContactLaws.{used-least}
use Rattle.contact_times.specs.laws.EndLaws.{bracket-ends, bracket-found}
use Rattle.contact_times.specs.laws.SecondStates.{hundredth-same}
use Rattle.sky_accuracy.specs.TruePlace.{TrueC}
use Rattle.sky_accuracy.specs.TrueShadow.{TrulyWithinUnits}
use Rattle.sky_accuracy.specs.Truth.{sky_at}
use Rattle.sky_accuracy.specs.TrueContacts.{InsideAt, OutsideAt, Bracketed}
use Rattle.sky_accuracy.proofs.laws.SaidTruly.{inside-by, outside-by, near_by}

-- the state at second τ under the larger of the request's guard and 32
abbrev pub state_of : Occultation → Phase → ℤ → State
state_of o φ τ = Second.state_at (used_guard o.guard) o.body (place_of o.station) φ τ

module _ (o : Occultation) (c : TrueC o.station.latitude) (i : InLimits o) (φ : Phase) where
  -- what is said at a hundredth is true
  module _ (τ : ℤ) (t : nat_abs τ ≤ 1_080_000) where
    pub inside-at : state_at (crossing o φ) τ ≡ inside → InsideAt o c φ τ
    inside-at e = inside-by o c i (used_guard o.guard) (used-least o.guard) φ hundredths (lit≤ tt) τ t e

    pub outside-at : state_at (crossing o φ) τ ≡ outside → OutsideAt o c φ τ
    outside-at e = outside-by o c i (used_guard o.guard) (used-least o.guard) φ hundredths (lit≤ tt) τ t e

    -- an unsure hundredth lies within that guard and 32 units of the true edge
    pub near-at : state_at (crossing o φ) τ ≡ unsure → TrulyWithinUnits (used_guard o.guard +ℤ pos 32) φ (sky_at o c hundredths τ) (cone o.body φ)
    near-at e = near_by o c i (used_guard o.guard) (used-least o.guard) φ hundredths (lit≤ tt) τ t e

  module _ (from to : ℤ) (h : nat_abs from ≤ 10_800) (k : nat_abs to ≤ 10_800) (l : from <ℤ to) where
    pub later : (from *ℤ pos 100) <ℤ (to *ℤ pos 100)
    later = certify-< 0 (from ∷ to ∷ []) (v0 ⊗ num 100) (v1 ⊗ num 100) (lit 100 ⊠ less v0 v1 l ⊞ lit 99) tt

    -- a hundredth between them is within three hours
    pub in-span : (z : ℤ) → (from *ℤ pos 100) ≤ℤ z → z ≤ℤ (to *ℤ pos 100) → nat_abs z ≤ 1_080_000
    in-span z p q =
        nat_abs_le z
        (certify 0 (from ∷ z ∷ []) (opp (num 1_080_000)) v1 (lit 100 ⊠ leq (opp (num 10_800)) v0 (neg_nat_abs from h) ⊞ leq (v0 ⊗ num 100) v1 p) tt)
        (certify 0 (to ∷ z ∷ []) v1 (num 1_080_000) (lit 100 ⊠ leq v0 (num 10_800) (le_nat_abs to k) ⊞ leq v1 (v0 ⊗ num 100) q) tt)

    module _ {Before After : ℤ → Type 0} (s t : State) (one : code s + code t ≡ 1)
        (before : (z : ℤ) → nat_abs z ≤ 1_080_000 → state_at (crossing o φ) z ≡ s → Before z)
        (after : (z : ℤ) → nat_abs z ≤ 1_080_000 → state_at (crossing o φ) z ≡ t → After z)
        (e : state_of o φ from ≡ s) (f : state_of o φ to ≡ t) where
      bracketed : Bracketed o φ from to Before After
      bracketed =
          let e' = hundredth-same (used_guard o.guard) o.body (place_of o.station) φ from ∙ e in
          let f' = hundredth-same (used_guard o.guard) o.body (place_of o.station) φ to ∙ f in
          let u = bracket-found (crossing o φ) from to later (omega (arith, ap code e', ap code f', one)) in
          let w = bracket-ends (crossing o φ) from to later _ _ u in
          record {
            a = _;
            b = _;
            found = u;
            least = w.least;
            order = w.order;
            most = w.most;
            before = before _ (in-span _ w.least (≤ℤ_trans (<ℤ-≤ w.order) w.most)) (w.before ∙ e');
            after = after _ (in-span _ (≤ℤ_trans w.least (<ℤ-≤ w.order)) w.most) (w.after ∙ f');
          }

    -- "an enter": truly outside, then truly inside
    pub enters : state_of o φ from ≡ outside → state_of o φ to ≡ inside → Bracketed o φ from to (OutsideAt o c φ) (InsideAt o c φ)
    enters e f = bracketed outside inside (omega arith) outside-at inside-at e f

    -- "a leave": truly inside, then truly outside
    pub leaves : state_of o φ from ≡ inside → state_of o φ to ≡ outside → Bracketed o φ from to (InsideAt o c φ) (OutsideAt o c φ)
    leaves e f = bracketed inside outside (omega arith) inside-at outside-at e f
