-- `element_fits::angles::arc` meets its contract: the sine of low is at most s, and that of each angle from high to 45 degrees is more. The measure is the
-- distance between the two.
use mathlib.Core.Path.{◌≡◌, subst}
use Prim.Native.Nat.{ℕ, ◌+◌, ◌-◌, ◌/◌, ◌≤◌, ◌<◌}
use native.Mathlib.Omega.{arith}
use lib.IntN.{ℤ, pos}
use lib.Signed.{◌≤ℤ◌, ◌<ℤ◌}
use Rattle.rounding.specs.laws.Order.{zs}
use Rattle.sine.specs.laws.FirstQuadrantLaws.{first_zero}
use Rattle.sine.specs.Sine.{sine}
use Rattle.sine.specs.laws.SineLaws.{sine-first}
use Rattle.element_fits.specs.laws.ArcsineLaws.{beyond, arc-found}
use Rattle.element_fits.proofs.angles.arc.Statement.{statement}
use Rattle.element_fits.proofs.angles.arc.Tie as tie

pub record Between (s low high : ℕ) : Type 0 where
  pub apart : low < high
  pub high_le : high ≤ 45_000_001
  pub holds : sine (pos low) ≤ℤ pos s
  pub above : (j : ℕ) → high ≤ j → j ≤ 45_000_000 → pos s <ℤ sine (pos j)

abbrev invariant-loop : tie.invariant-loop-low
invariant-loop table s low₀ high₀ low high = Between s low high

abbrev decreases-loop : tie.decreases-loop-low
decreases-loop table s low₀ high₀ low high = high - low

loop-holds : tie.Need-loop-low-init invariant-loop decreases-loop
loop-holds c =
    record {
      apart = omega arith;
      high_le = omega arith;
      holds = rw (sine-first 0 (omega arith), first_zero) (omega (arith, zs));
      above = λ j h k. absurd (omega arith);
    }

add-loop : tie.Need-overflow_add-low invariant-loop decreases-loop
add-loop c = omega (arith, c.loop-low.invariant.apart, c.loop-low.invariant.high_le)

add_a : tie.Need-overflow_add-a invariant-loop decreases-loop
add_a c = omega (arith, c.loop-low.invariant.apart, c.loop-low.invariant.high_le)

natural-sine-requires : tie.Need-natural_sine-found-requires invariant-loop decreases-loop
natural-sine-requires c κs =
    (c.requires, omega (arith, c.loop-low.invariant.apart, c.loop-low.invariant.high_le))

-- the angle of a round, and its sine
module _ (c : tie.After-natural_sine-found invariant-loop decreases-loop) where
  abbrev at : ℕ
  at = (c.loop-low.low + c.loop-low.high) / 2

  found-is : pos c.natural_sine-found.result ≡ sine (pos at)
  found-is = c.natural_sine-found.ensures

loop-less : tie.Need-loop-low-smaller-then-s-found invariant-loop decreases-loop
loop-less c = let b = c.loop-low.invariant in omega (arith, b.apart)

loop-again : tie.Need-loop-low-preserved-then-s-found invariant-loop decreases-loop
loop-again c =
    let b = c.loop-low.invariant in
    let s = c.args.s in
    let more : pos s <ℤ sine (pos (at c.before)) = subst (λ (z : ℤ). pos s <ℤ z) (found-is c.before) (omega (arith, zs, c.if-s-found.true)) in
    record {
      apart = omega (arith, b.apart);
      high_le = omega (arith, b.apart, b.high_le);
      holds = b.holds;
      above = beyond s (at c.before) more;
    }

loop-less-2 : tie.Need-loop-low-smaller invariant-loop decreases-loop
loop-less-2 c = let b = c.loop-low.invariant in omega (arith, b.apart)

loop-again-2 : tie.Need-loop-low-preserved invariant-loop decreases-loop
loop-again-2 c =
    let b = c.loop-low.invariant in
    let s = c.args.s in
    record {
      apart = omega (arith, b.apart);
      high_le = b.high_le;
      holds = subst (λ (z : ℤ). z ≤ℤ pos s) (found-is c.before) (omega (arith, zs, c.if-s-found.false));
      above = b.above;
    }

returns : tie.Need-returns invariant-loop decreases-loop
returns c =
    let b = c.loop-low.invariant in
    let low = c.loop-low.low in (
      arc-found c.args.s low (omega (arith, b.apart, b.high_le)) b.holds (λ j h l. b.above j (omega (arith, b.apart)) l),
      omega (arith, b.apart, b.high_le),
    )

pub arc_spec : {M : Type 1} → statement M
arc_spec = tie.close (tie.spec invariant-loop decreases-loop loop-holds add-loop add_a natural-sine-requires loop-less loop-again loop-less-2 loop-again-2 returns)
