-- What callers use of the arcsine.
--   arc-is           it is the largest angle from 0 to 45 degrees whose sine is at most s
--   arc-found        a search by halving that ends between an angle whose sine is at most s and one whose sine is more has found it
--   arc-low, arc-high   the sine of the angle is at most s, and at most 2 units less for s up to the sine of 45 degrees
--   arc_rises        a larger sine has a larger angle
--   arcsine-above, arcsine-below, arcsine-size, arcsine-opposite   by the sign; at most 45 degrees; of -s it is the opposite
--   arcsine-within   the sine of the angle is within 2 units of s
use Rattle.std.specs.Prelude.{◌≡◌, true, [], ◌∷◌, ℕ, zero, suc, ◌≤◌, ◌<◌, ℤ, pos, negsuc, neg_ℤ, nat_abs, ◌+ℤ◌, ◌-ℤ◌, ◌≤ℤ◌, ◌<ℤ◌}
use Rattle.std.proofs.Common.{sym, ap, ◌∙◌, ⊎_elim, arith, eq-or-lt_of_le, lt_of_not-le}
use Rattle.std.proofs.Math.IntN.{neg_ℤ-neg_ℤ}
use Rattle.rounding.specs.Parts.{sum, opposite}
use Rattle.rounding.specs.laws.Order.{zs, le_z_true, le_z_false, nat_abs_by, nat_abs_opposite, both_ways}
use Rattle.rounding.specs.laws.Tests.{yes-≤, no-≤, yes-<, no-<}
use Rattle.rounding.specs.laws.Ring.{◌⊖◌, opp, ring, v0, v1}
use Rattle.sine.specs.laws.Examples.{sine_of_least}
use Rattle.sine.specs.laws.FirstQuadrantLaws.{first_zero}
use Rattle.sine.specs.Sine.{sine}
use Rattle.sine.specs.laws.SineLaws.{sine-first}
use Rattle.sine.specs.laws.OppositeLaws.{sine-opposite}
use Rattle.element_fits.specs.Search.{Largest}
use Rattle.element_fits.specs.laws.SearchLaws.{largest-is, largest-unique}
use Rattle.element_fits.specs.Angles.{reaches, arc, arcsine}
use Rattle.element_fits.specs.laws.Rising.{sine_rises, sine-step, sine_of_45}

module _ (s : ℕ) where
  reaches-zero : reaches s 0 ≡ true
  reaches-zero = yes-≤ {a = sine (pos 0)} {b = pos s} (rw (sine-first 0 (omega arith), first_zero) (omega (arith, zs)))

  pub arc-is : Largest (reaches s) 45_000_000 (arc s)
  unfolding arc
  arc-is = largest-is (reaches s) reaches-zero 45_000_000

  pub arc-le : arc s ≤ 45_000_000
  arc-le = arc-is.small

  pub arc-low : sine (pos (arc s)) ≤ℤ pos s
  arc-low = le_z_true (sine (pos (arc s))) (pos s) arc-is.holds

  -- where a sine is more, so are those of all larger angles
  pub beyond : (a : ℕ) → pos s <ℤ sine (pos a) → (j : ℕ) → a ≤ j → j ≤ 45_000_000 → pos s <ℤ sine (pos j)
  beyond a h j i l = omega (arith, zs, sine_rises a j i l)

  pub arc-found : (low : ℕ) → low ≤ 45_000_000 → sine (pos low) ≤ℤ pos s
      → ((j : ℕ) → low < j → j ≤ 45_000_000 → pos s <ℤ sine (pos j)) → low ≡ arc s
  arc-found low h holds above =
      largest-unique (reaches s) (record { small = h; holds = yes-≤ holds; above = λ j i l. no-≤ (above j i l) }) arc-is

  pub arc-high : s ≤ 70_710_678 → pos s ≤ℤ (sine (pos (arc s)) +ℤ pos 2)
  arc-high h =
      ⊎_elim
      (λ (e : arc s ≡ 45_000_000). rw (e, sine_of_45) (omega (arith, zs)))
      (λ (l : arc s < 45_000_000).
      let a = arc s in
      let more = le_z_false (sine (pos (suc a))) (pos s) (arc-is.above (suc a) (omega arith) (omega arith)) in
      omega (arith, zs, sine-step a l, (sum (sine (pos a)) (pos 2)).is, (sum (sine (pos a)) (pos 3)).is))
      (eq-or-lt_of_le arc-le)

pub arc_rises : (s t : ℕ) → s ≤ t → arc s ≤ arc t
arc_rises s t h =
    omega (
      arith,
      lt_of_not-le (λ (g : arc t < arc s).
          both_ways (yes-≤ {a = sine (pos (arc s))} {b = pos t} (omega (arith, zs, arc-low s))) ((arc-is t).above (arc s) g (arc-le s))),
    )

-- ---- with its sign
module _ (s : ℤ) where
  pub arcsine-above : pos 0 ≤ℤ s → arcsine s ≡ pos (arc (nat_abs s))
  unfolding arcsine
  arcsine-above h = rw (no-< h)

  pub arcsine-below : s <ℤ pos 0 → arcsine s ≡ neg_ℤ (pos (arc (nat_abs s)))
  unfolding arcsine
  arcsine-below h = rw (yes-< h)

-- the sine of the least angle is 2
pub arc_zero : arc 0 ≡ 0
arc_zero =
    let least : pos 0 <ℤ sine (pos 1) = rw sine_of_least (omega (arith, zs)) in
    let none : sine (pos 0) ≤ℤ pos 0 = rw (sine-first 0 (omega arith), first_zero) (omega (arith, zs)) in
    sym (arc-found 0 0 (omega arith) none (λ j h l. beyond 0 1 least j (omega arith) l))

pub arcsine-size : (s : ℤ) → nat_abs (arcsine s) ≤ 45_000_000
arcsine-size (pos n) = omega (arith, ap nat_abs (arcsine-above (pos n) (omega (arith, zs))), arc-le n)
arcsine-size (negsuc n) =
    omega (arith, ap nat_abs (arcsine-below (negsuc n) (omega (arith, zs))), nat_abs_opposite (pos (arc (suc n))), arc-le (suc n))

pub arcsine-opposite : (s : ℤ) → arcsine (neg_ℤ s) ≡ neg_ℤ (arcsine s)
arcsine-opposite (pos zero) = rw (arcsine-above (pos 0) (omega (arith, zs)), arc_zero)
arcsine-opposite (pos (suc n)) =
    arcsine-below (negsuc n) (omega (arith, zs)) ∙ ap neg_ℤ (sym (arcsine-above (pos (suc n)) (omega (arith, zs))))
arcsine-opposite (negsuc n) =
    arcsine-above (pos (suc n)) (omega (arith, zs)) ∙ sym (neg_ℤ-neg_ℤ (pos (arc (suc n)))) ∙ ap neg_ℤ (sym (arcsine-below (negsuc n) (omega (arith, zs))))

-- from above and from below
pub arc-within : (n : ℕ) → n ≤ 70_710_678 → nat_abs (pos n -ℤ sine (pos (arc n))) ≤ 2
arc-within n h =
    let t = sine (pos (arc n)) in
    nat_abs_by (pos n -ℤ t) (omega (arith, zs, arc-high n h, (sum t (pos 2)).is, (sum (pos n) (neg_ℤ t)).is, (opposite t).is))
    (omega (arith, zs, arc-low n, (sum (pos n) (neg_ℤ t)).is, (opposite t).is))

pub arcsine-within : (s : ℤ) → nat_abs s ≤ 70_710_678 → nat_abs (s -ℤ sine (arcsine s)) ≤ 2
arcsine-within (pos n) h = rw (arcsine-above (pos n) (omega (arith, zs))) (arc-within n h)
arcsine-within (negsuc n) h =
    let t = sine (pos (arc (suc n))) in
    rw (arcsine-below (negsuc n) (omega (arith, zs)), sine-opposite (pos (arc (suc n))))
    (omega (
      arith,
      arc-within (suc n) h,
      nat_abs_opposite (pos (suc n) -ℤ t),
      ap nat_abs (ring (pos (suc n) ∷ t ∷ []) (opp v0 ⊖ opp v1) (opp (v0 ⊖ v1)) tt),
    ))
