-- A contact lies between its two printed times, in every scale, and these are less than a tenth of a second off; the
-- closest second is within half a tenth of its time; and in a window no time is more than a day off the instant's.
-- These are claims about printed bytes, as `Reading` reads them. `OutwardLaws` proves them.
use Rattle.std.specs.Prelude.{◌≤◌, ℤ, pos, nat_abs, ◌+ℤ◌, ◌*ℤ◌, ◌≤ℤ◌, ◌<ℤ◌}
use Rattle.listing_lines.specs.declared.clock.TimeScale.{TimeScale}
use Rattle.calendar.specs.declared.Instant.{Instant}
use Rattle.listing_lines.specs.Times.{day_of, time_text}
use Rattle.listing_lines.specs.Clock.{time_in, earlier, later, nearest}
use Rattle.listing_lines.specs.laws.Reading.{read_time}

-- of thousandths `from` and `to`, and of tenths: what lies between the first two lies between the others
pub record Outward (from to low high : ℤ) : Type 0 where
  pub holds : (x : ℤ) → from ≤ℤ x → x ≤ℤ to → ((pos 100 *ℤ low) ≤ℤ x) × (x ≤ℤ (pos 100 *ℤ high))
  pub low_near : from <ℤ (pos 100 *ℤ low +ℤ pos 100)
  pub high_near : (pos 100 *ℤ high) <ℤ (to +ℤ pos 100)

-- the two printed times of any seconds, in every scale
abbrev pub BetweenItsTimes : Type 0
BetweenItsTimes = (shown : TimeScale) (i : Instant) (d from to : ℤ)
    → let n = time_in shown i d from in
    let m = time_in shown i d to in
    Outward n m (read_time (time_text (earlier n))) (read_time (time_text (later m)))

-- of thousandths n and tenths q: at most 50 thousandths apart
pub record Nearest (n q : ℤ) : Type 0 where
  pub below : (pos 100 *ℤ q) ≤ℤ (n +ℤ pos 50)
  pub above : n <ℤ (pos 100 *ℤ q +ℤ pos 50)

abbrev pub NearItsTime : Type 0
NearItsTime = (shown : TimeScale) (i : Instant) (d τ : ℤ) → let n = time_in shown i d τ in Nearest n (read_time (time_text (nearest n)))

-- "no other day can come: a window ends three hours from its instant, and ΔT is at most 200 s, A at most 99 s"
abbrev pub OneDayAtMost : Type 0
OneDayAtMost = (shown : TimeScale) (i : Instant) (d τ : ℤ) → nat_abs d ≤ 20000 → nat_abs τ ≤ 10800
    → let n = time_in shown i d τ in (nat_abs (day_of (earlier n)) ≤ 1) × (nat_abs (day_of (later n)) ≤ 1) × (nat_abs (day_of (nearest n)) ≤ 1)
