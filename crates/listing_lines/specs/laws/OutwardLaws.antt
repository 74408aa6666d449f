-- Why the claims of `Outward` hold: each rounding is a floor.
use Rattle.std.specs.Prelude.{ℕ, ◌%◌, ◌≤◌, ◌≡◌, [], ◌∷◌, ℤ, pos, neg_ℤ, nat_abs, ◌+ℤ◌, ◌-ℤ◌, ◌*ℤ◌, ◌≤ℤ◌}
use Rattle.std.proofs.Common.{arith}
use Rattle.rounding.specs.Near.{floor_z}
use Rattle.rounding.specs.laws.Floor.{Floor, floor-is}
use Rattle.rounding.specs.Parts.{sum, product, opposite, is_self, is_minus}
use Rattle.rounding.specs.laws.Ring.{num, ◌⊕◌, v0, ring}
use Rattle.rounding.specs.laws.Order.{zs, ≤ℤ_trans, nat_abs_le, le_nat_abs, neg_nat_abs}
use Rattle.calendar.specs.declared.Scale.{Scale}
use Rattle.calendar.specs.declared.Scale.TheVariants.{Ephemeris, Universal}
use Rattle.listing_lines.specs.declared.clock.TimeScale.{TimeScale}
use Rattle.listing_lines.specs.declared.clock.TimeScale.TheVariants.{ET, UT, UTC}
use Rattle.calendar.specs.declared.Instant.{Instant}
use Rattle.listing_lines.specs.Times.{day_of}
use Rattle.listing_lines.specs.Clock.{own, in_scale, offset_of, time_in, earlier, later, nearest}
use Rattle.listing_lines.specs.laws.Printed.{read_time_back}
use Rattle.listing_lines.specs.Outward.{BetweenItsTimes, NearItsTime, OneDayAtMost}

tenths : (n : ℤ) → Floor n (pos 100) (floor_z n (pos 100))
tenths n = floor-is n (pos 100) (omega (arith, zs))

pub between_its_times : BetweenItsTimes
between_its_times shown i d from to =
    let n = time_in shown i d from in
    let m = time_in shown i d to in
    let f = tenths n in
    let g = tenths (m +ℤ pos 99) in
    let s = (sum m (pos 99)).is in
    let high : m ≤ℤ (pos 100 *ℤ later m) = omega (arith, zs, g.high, s, (sum (pos 100 *ℤ later m) (pos 100)).is) in
    rw (read_time_back (earlier n), read_time_back (later m))
    (record {
      holds = λ x a b. (≤ℤ_trans f.low a, ≤ℤ_trans b high);
      low_near = f.high;
      high_near = omega (arith, zs, g.low, s, (sum m (pos 100)).is);
    })

pub near_its_time : NearItsTime
near_its_time shown i d τ =
    let n = time_in shown i d τ in
    let f = tenths (n +ℤ pos 50) in
    rw (read_time_back (nearest n))
    (record {
      below = f.low;
      above = omega (arith, zs, f.high, (sum n (pos 50)).is, (sum (pos 100 *ℤ nearest n) (pos 100)).is, (sum (pos 100 *ℤ nearest n) (pos 50)).is);
    })

-- 10 I + 1000τ, from three hours before the instant's day to three hours after it
own_reach : (i : Instant) (τ : ℤ) → nat_abs τ ≤ 10800 → (neg_ℤ (pos 10800000) ≤ℤ own i τ) × (own i τ ≤ℤ pos 97199990)
unfolding own
own_reach i τ h =
    let n = i.hundredths % 8640000 in
    let l : n ≤ 8639999 = omega arith in
    let s = (sum (pos 10 *ℤ pos n) (pos 1000 *ℤ τ)).is in
    let m = (product (pos 10) (pos n)).is in
    let p = (product (pos 1000) τ).is in (
      omega (arith, zs, neg_nat_abs τ h, s, m, p, (opposite (pos 10800)).is, (opposite (pos 10800000)).is),
      omega (arith, zs, le_nat_abs τ h, s, m, p),
    )

-- and 400 s more to each side
abbrev InReach : ℤ → Type 0
InReach n = (neg_ℤ (pos 11200000) ≤ℤ n) × (n ≤ℤ pos 97599990)

-- with 200 s more to each side
abbrev Near : ℤ → Type 0
Near n = (neg_ℤ (pos 11000000) ≤ℤ n) × (n ≤ℤ pos 97399990)

module _ (n d : ℤ) (h : nat_abs d ≤ 20000) (low : neg_ℤ (pos 10800000) ≤ℤ n) (high : n ≤ℤ pos 97199990) where
  same : Near n
  same = (omega (arith, zs, low, (opposite (pos 10800000)).is, (opposite (pos 11000000)).is), omega (arith, zs, high))

  minus : Near (n -ℤ pos 10 *ℤ d)
  minus =
      let s = (is_minus (is_self n) (product (pos 10) d)).is in (
        omega (arith, zs, low, s, le_nat_abs d h, (opposite (pos 10800000)).is, (opposite (pos 11000000)).is),
        omega (arith, zs, high, s, neg_nat_abs d h, (opposite (pos 20000)).is),
      )

  plus : Near (n +ℤ pos 10 *ℤ d)
  plus =
      let s = (sum n (pos 10 *ℤ d)).is in
      let p = (product (pos 10) d).is in (
        omega (arith, zs, low, s, p, neg_nat_abs d h, (opposite (pos 20000)).is, (opposite (pos 10800000)).is, (opposite (pos 11000000)).is),
        omega (arith, zs, high, s, p, le_nat_abs d h),
      )

reach : (n : ℤ) → Near n → InReach n
reach n r = (omega (arith, zs, r.0, (opposite (pos 11000000)).is, (opposite (pos 11200000)).is), omega (arith, zs, r.1))

-- and less 32.184 s and at most 99 s
coordinated : (n : ℤ) (a : ℕ) → a ≤ 99 → Near n → InReach (n -ℤ pos 32184 -ℤ pos 1000 *ℤ pos a)
coordinated n a h r =
    let s = (is_minus (is_minus (is_self n) (is_self (pos 32184))) (product (pos 1000) (pos a))).is in
    (omega (arith, zs, r.0, s, (opposite (pos 11000000)).is, (opposite (pos 11200000)).is), omega (arith, zs, r.1, s))

in_reach : (shown : TimeScale) (i : Instant) (d τ : ℤ) → nat_abs d ≤ 20000 → nat_abs τ ≤ 10800 → InReach (time_in shown i d τ)
unfolding time_in
in_reach shown i d τ h g = by i.scale shown
  where
    few : offset_of i ≤ 99
    few = omega arith

    at : Near (own i τ)
    at = same (own i τ) d h (own_reach i τ g).0 (own_reach i τ g).1

    before : Near (own i τ -ℤ pos 10 *ℤ d)
    before = minus (own i τ) d h (own_reach i τ g).0 (own_reach i τ g).1

    after : Near (own i τ +ℤ pos 10 *ℤ d)
    after = plus (own i τ) d h (own_reach i τ g).0 (own_reach i τ g).1

    by : (typed : Scale) (shown : TimeScale) → InReach (in_scale typed shown d (pos (offset_of i)) (own i τ))
    by Ephemeris ET = reach _ at
    by Ephemeris UT = reach _ before
    by Ephemeris UTC = coordinated _ (offset_of i) few at
    by Universal ET = reach _ after
    by Universal UT = reach _ at
    by Universal UTC = coordinated _ (offset_of i) few after

-- of n thousandths and at most 99 more, rounded down
one-day : (n : ℤ) → InReach n → (more : ℕ) → more ≤ 99 → nat_abs (day_of (floor_z (n +ℤ pos more) (pos 100))) ≤ 1
one-day n r more h =
    let q = floor_z (n +ℤ pos more) (pos 100) in
    let f = tenths (n +ℤ pos more) in
    let g = floor-is q (pos 864000) (omega (arith, zs)) in
    let day = day_of q in
    nat_abs_le day
    (omega (arith, zs, r.0, f.high, g.high, (sum n (pos more)).is, (sum (pos 100 *ℤ q) (pos 100)).is, (product (pos 100) q).is, (sum (pos 864000 *ℤ day) (pos 864000)).is, (product (pos 864000) day).is, (opposite (pos 11200000)).is, (opposite (pos 1)).is))
    (omega (arith, zs, r.1, f.low, g.low, (sum n (pos more)).is, (product (pos 100) q).is, (product (pos 864000) day).is))

pub one-day-at-most : OneDayAtMost
one-day-at-most shown i d τ h g =
    let n = time_in shown i d τ in
    let r = in_reach shown i d τ h g in
    let z : n +ℤ pos 0 ≡ n = ring (n ∷ []) (v0 ⊕ num 0) v0 tt in
    (rw z at (one-day n r 0 (omega arith)), one-day n r 99 (omega arith), one-day n r 50 (omega arith))
