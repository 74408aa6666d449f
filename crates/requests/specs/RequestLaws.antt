-- What callers use of a request within its limits.
--   in-limits                what `Ok` says of its window, its guard, its elements and its station
--   guard-is, guard_size     a guard in its range
--   never-room               the numbers raise no 4
--   checked-order            a check's parts in their order
--   checked-window, checked-guard, checked-element, checked-station   the ways of a check
use Rattle.std.specs.Prelude.{◌≡◌, Bool, true, false, cond, not, ℕ, ◌≤◌, ℤ, pos, nat_abs, ◌≤ℤ◌, Ok, Err, Result, Option, None, Some}
use Rattle.std.proofs.Math.Path.{refl}
use Rattle.std.proofs.Common.{sym, arith}
use Rattle.std.specs.Int.Signed.{le_z, le_z_yes}
use Rattle.rounding.specs.Parts.{same}
use Rattle.rounding.specs.laws.Order.{≤-parts, ≤ℤ_trans, le_z_true, nat_abs_parts, nat_abs_between, nonneg}
use Rattle.rounding.specs.laws.Tests.{both}
use Rattle.sheet_types.specs.declared.refusals.Refusal.{Refusal}
use Rattle.sheet_types.specs.Refusals.{refusal, of_limits, andThen}
use Rattle.sheet_types.specs.laws.RefusalLaws.{not_within, of_limits_within, both-within, number_in, refused_number}
use Rattle.elements.specs.declared.Body.{Body}
use Rattle.elements.specs.declared.Body.TheVariants as B
use Rattle.elements.specs.Elements as E
use Rattle.elements.specs.Stars.{star_range_of, radius_range_of, body_checked}
use Rattle.elements.specs.StarLaws.{BodySizes, body_sizes}
use Rattle.station.specs.Station as S
use Rattle.station.specs.Station.{station_checked}
use Rattle.station.specs.Sizes.{StationSizes, station_sizes}
use Rattle.requests.specs.declared.Occultation.{Occultation}
use Rattle.requests.specs.Windows.{window_holds}
use Rattle.requests.specs.WindowLaws.{WindowHolds, window-holds}
use Rattle.requests.specs.Requests.{window_checked, guard_holds, guard_checked, checked}

pub record GuardHolds (g : ℤ) : Type 0 where
  pub low : pos 16 ≤ℤ g
  pub high : g ≤ℤ pos 1000

pub guard-holds : (g : ℤ) → guard_holds g ≡ true → GuardHolds g
unfolding guard_holds
guard-holds g e =
    let p = both (le_z (pos 16) g) (le_z g (pos 1000)) e in
    record { low = le_z_true (pos 16) g p.0; high = le_z_true g (pos 1000) p.1 }

-- a guard in its range is a natural number
pub guard-is : {g : ℤ} → GuardHolds g → pos (nat_abs g) ≡ g
guard-is {g} h = same (pos (nat_abs g)) g (omega (arith, nat_abs_parts g, nonneg (≤ℤ_trans (le_z_yes tt) h.low)))

pub guard_size : {g : ℤ} → GuardHolds g → (16 ≤ nat_abs g) × (nat_abs g ≤ 1000)
guard_size {g} h = (omega (arith, nat_abs_parts g, ≤-parts h.low), nat_abs_between g 16 h.low h.high)

pub record InLimits (o : Occultation) : Type 0 where
  pub window : WindowHolds o.window
  pub guard : GuardHolds o.guard
  pub body : BodySizes o.body
  pub station : StationSizes o.station

-- a test that refuses nothing
held : (b : Bool) (r : Refusal) → ◌≡◌ {A = Result Unit Refusal} (cond b (Ok tt) (Err r)) (Ok tt) → b ≡ true
held true r e = refl
held false r e = absurd (not_within e)

pub in-limits : (o : Occultation) → checked o ≡ Ok tt → InLimits o
unfolding checked
in-limits o e =
    let after-window = both-within (window_checked o.window) _ e in
    let after-guard = both-within (guard_checked o.guard) _ after-window.1 in
    let both = both-within (body_checked o.body) (station_checked o.station) after-guard.1 in
    record {
      window = window-holds o.window (held (window_holds o.window) _ after-window.0);
      guard = guard-holds o.guard (held (guard_holds o.guard) _ after-guard.0);
      body = body_sizes o.body both.0;
      station = station_sizes o.station (of_limits_within 3 (S.range_of o.station) both.1);
    }

-- ---- a check that never gives 4
abbrev NeverFour : Result Unit Refusal → Type 0
NeverFour c = number_in c ≡ 4 → ⊥

both-never : (c d : Result Unit Refusal) → NeverFour c → NeverFour d → NeverFour (andThen c d)
both-never (Ok tt) d f g = g
both-never (Err r) d f g = f

test_never : (b : Bool) (r : Refusal) → (r.number ≡ 4 → ⊥) → NeverFour (cond b (Ok tt) (Err r))
test_never true r f = λ h. omega arith
test_never false r f = f

limits_never : (n : ℕ) (l : Option ℕ) → (n ≡ 4 → ⊥) → NeverFour (of_limits n l)
limits_never n None f = λ h. omega arith
limits_never n (Some k) f = f

body-never : (b : Body) → NeverFour (body_checked b)
body-never (B.Sun e) = limits_never 2 (E.range_of e) (λ h. omega arith)
body-never (B.Star s) =
    both-never (of_limits 2 (star_range_of s)) (of_limits 13 (radius_range_of s.radius)) (limits_never 2 (star_range_of s) (λ h. omega arith))
    (limits_never 13 (radius_range_of s.radius) (λ h. omega arith))

-- ---- a test that is turned
pub not_true : (b : Bool) → not b ≡ true → b ≡ false
not_true true e = sym e
not_true false e = refl

pub not_false : (b : Bool) → not b ≡ false → b ≡ true
not_false true e = refl
not_false false e = sym e

-- ---- the ways of a check
module _ (o : Occultation) where
  pub checked-order : checked o ≡ andThen (window_checked o.window) (andThen (guard_checked o.guard) (andThen (body_checked o.body) (station_checked o.station)))
  unfolding checked
  checked-order = refl

  pub checked-window : window_holds o.window ≡ false → checked o ≡ Err (refusal 1 0)
  unfolding checked
  checked-window eb = rw eb

  module _ (eb : window_holds o.window ≡ true) where
    pub checked-guard : guard_holds o.guard ≡ false → checked o ≡ Err (refusal 1 1)
    unfolding checked
    checked-guard eg = rw (eb, eg)

    module _ (eg : guard_holds o.guard ≡ true) where
      pub checked-element : {r : Refusal} → body_checked o.body ≡ Err r → checked o ≡ Err r
      unfolding checked
      checked-element ex = rw (eb, eg, ex)

      pub checked-station : body_checked o.body ≡ Ok tt → checked o ≡ station_checked o.station
      unfolding checked
      checked-station ex = rw (eb, eg, ex)

  -- the numbers raise 1, 2, 13 or 3, and no 4
  pub never-room : (r : Refusal) → checked o ≡ Err r → r.number ≡ 4 → ⊥
  unfolding checked
  never-room r e four =
      let b = o.body in
      let after-body = both-never (body_checked b) (station_checked o.station) (body-never b) (limits_never 3 (S.range_of o.station) (λ h. omega arith)) in
      both-never (window_checked o.window) (andThen (guard_checked o.guard) (andThen (body_checked b) (station_checked o.station)))
      (test_never (window_holds o.window) (refusal 1 0) (λ h. omega arith))
      (both-never (guard_checked o.guard) (andThen (body_checked b) (station_checked o.station))
      (test_never (guard_holds o.guard) (refusal 1 1) (λ h. omega arith)) after-body)
      (omega (arith, refused_number e))
