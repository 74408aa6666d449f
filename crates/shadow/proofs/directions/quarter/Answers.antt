use Rattle.std.proofs.Common.{◌≡◌, sym, ap, ◌∙◌, ◌+◌, ◌*◌, ◌-◌, ◌/◌, ◌≤◌, ◌<◌, ℕ, pos, arith, mul-le-mul_left}
use native.Mathlib.Nat.{eq-or-lt_of_le}
use mathlib.Core.Logic.{⊎_elim}
use Rattle.rounding.specs.laws.Order.{zs}
use Rattle.sine_table.specs.Table.{S}
use Rattle.sine_table.specs.laws.TableLaws.{entry_0}
use Rattle.sine_table.specs.laws.Rising.{S_rises}
use Rattle.shadow_geometry.specs.Direction.{Largest, quarter}
use Rattle.shadow_geometry.specs.laws.DirectionLaws.{largest-unique, quarter-is}
use Rattle.shadow.proofs.directions.quarter.Invariants.{Between}
use Rattle.shadow.proofs.directions.quarter.Goals as goal

-- not falling, so nothing from k on reaches where k does not
rises-≤ : (j k : ℕ) → j ≤ k → k ≤ 900 → S j ≤ S k
rises-≤ j k h l = ⊎_elim (λ (e : j ≡ k). omega (arith, ap S e)) (λ (i : j < k). omega (arith, S_rises j k i l)) (eq-or-lt_of_le h)

beyond : (u v k : ℕ) → u * S (900 - k) < v * S k → (j : ℕ) → k ≤ j → j ≤ 899 → u * S (900 - j) < v * S j
beyond u v k h j i l =
    omega (arith, mul-le-mul_left u (rises-≤ (900 - j) (900 - k) (omega arith) (omega arith)), mul-le-mul_left v (rises-≤ k j i (omega arith)))

-- at the end
found : (u v low high : ℕ) → Between u v low high → high ≤ low + 1 → low ≡ quarter S (pos u) (pos v)
found u v low high b h =
    let largest : Largest S (pos u) (pos v) 899 low =
    record {
      small = omega (arith, b.apart, b.high_le);
      holds = omega (arith, zs, b.holds);
      above = λ j i k. omega (arith, zs, b.above j (omega (arith, b.apart)) k);
    } in
    sym (largest-unique S (pos u) (pos v) (quarter-is S (pos u) (pos v) entry_0 (omega (arith, zs))) largest)

pub loop-low-init : goal.loop-low-init
loop-low-init c =
    record { apart = omega arith; high_le = omega arith; holds = rw entry_0 (omega arith); above = λ j h k. absurd (omega arith) }

pub loop-low-preserved : goal.loop-low-preserved
loop-low-preserved c =
    let b = c.loop-low.invariant in
    let a = c.args in
    let k = (c.loop-low.low + c.loop-low.high) / 2 in
    let rising : c.from-rising.result ≡ S k = c.from-rising.ensures ∙ c.entry.ensures.value in
    let falling : c.from-falling.result ≡ S (900 - k) = c.from-falling.ensures ∙ c.entry-in-loop-low.ensures.value in
    record {
      apart = omega (arith, b.apart);
      high_le = omega (arith, b.apart, b.high_le);
      holds = b.holds;
      above = beyond a.u a.v k (rw (sym rising, sym falling) c.if-v-rising.false);
    }

pub returns : goal.returns
returns c = found c.args.u c.args.v c.loop-low.low c.loop-low.high c.loop-low.invariant (omega arith)
