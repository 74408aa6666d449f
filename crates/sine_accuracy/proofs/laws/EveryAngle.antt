-- The rule's sine and cosine lie within 1.79 units of 10^8 times the series, at every angle, so within two
-- (`two_units`).
--   sine-true, cosine-true               from 0 to 90 degrees, both ends included, against the sine series and the cosine series
--   sine-everywhere, cosine-everywhere   at every angle, by quadrants
-- Why: the sine is 1.78 off at most (First, Tests); the cosine is the sine of what the angle lacks of 90 degrees,
-- where the two series are 0.01 apart.
use Rattle.std.specs.Prelude.{◌≡◌, [], ◌∷◌, ℤ, pos, neg_ℤ, ◌-ℤ◌, ◌*ℤ◌}
use Rattle.std.proofs.Common.{sym, ◌∙◌, subst, add-zero}
use Rattle.std.proofs.Math.Path.{ap}
use Prim.Native.Nat.{ℕ, zero, suc, ◌+◌, ◌-◌, ◌*◌, ◌/◌, ◌%◌, ◌≤◌, ◌<◌}
use native.Mathlib.Omega.{arith}
use Rattle.std.proofs.Math.IntN.{nat_abs, neg_ℤ-neg_ℤ}
use Rattle.rounding.specs.laws.Order.{nat_abs_minus, nat_abs_product, nat_abs_opposite}
use Rattle.rounding.specs.laws.Ring.{num, ◌⊕◌, ◌⊖◌, ◌⊗◌, opp, ring, v0, v1, v2}
use Rattle.sine.specs.FirstQuadrant.{first_quadrant}
use Rattle.sine.specs.laws.FirstQuadrantLaws.{first_zero}
use Rattle.sine.specs.Sine.{reduced, sine, cosine}
use Rattle.sine.specs.laws.SineLaws.{reduced_below, sine-first, cosine-first, sine-above, cosine-above, sine-reduced, cosine-reduced}
use Rattle.sine_accuracy.specs.Series.{common, sine_series, cosine_series}
use Rattle.sine_accuracy.specs.TrueSine.{sine_quarter, cosine_quarter, true_sine, true_cosine, TwoUnits, Within}
use Rattle.sine_accuracy.specs.laws.Lists.{worth, size, worth-added, worth-size}
use Rattle.sine_accuracy.specs.laws.Coefficients.{sines, complements}
use Rattle.sine_accuracy.proofs.laws.Coefficients.{sine-worth, complement-worth}
use Rattle.sine_accuracy.specs.laws.First.{first-close}
use Rattle.sine_accuracy.proofs.laws.Tests.{sine_nodes, gaps, gaps_small}

-- ---- from 0 to 90 degrees

module _ (a : ℕ) (h : a ≤ 90_000_000) where
  sine-first-close : 100 * nat_abs (pos common *ℤ first_quadrant a -ℤ pos 100_000_000 *ℤ worth sines (pos a)) ≤ 178 * common
  sine-first-close = first-close sines common sine_nodes a h

  pub sine-true : Within (sine (pos a)) (sine_series a)
  sine-true = rw (sine-first a h, sine-worth a) (record { within = omega (arith, sine-first-close) })

module _ (a : ℕ) (h : a ≤ 90_000_000) where
  -- what the angle lacks of 90 degrees
  lacks : ℕ
  lacks = 90_000_000 - a

  lacks-most : lacks ≤ 90_000_000
  unfolding lacks
  lacks-most = omega arith

  gap : nat_abs (worth complements (pos lacks) -ℤ worth sines (pos lacks)) ≤ size 90_000_000 gaps
  unfolding gaps
  gap =
      let s = worth sines (pos lacks) in
      let c = worth complements (pos lacks) in
      omega (
        arith,
        worth-size 90_000_000 (pos lacks) lacks-most gaps,
        ap nat_abs (worth-added (neg_ℤ (pos 1)) (pos lacks) sines complements ∙ ring (s ∷ c ∷ []) (opp (num 1) ⊗ v0 ⊕ v1) (v1 ⊖ v0) tt),
      )

  complement-close : 100 * nat_abs (pos common *ℤ first_quadrant lacks -ℤ pos 100_000_000 *ℤ worth complements (pos lacks)) ≤ 179 * common
  complement-close =
      let x = pos common *ℤ first_quadrant lacks in
      let s = worth sines (pos lacks) in
      let c = worth complements (pos lacks) in
      omega (
        arith,
        ap nat_abs (ring (x ∷ s ∷ c ∷ []) (v0 ⊖ num 100_000_000 ⊗ v2) (v0 ⊖ num 100_000_000 ⊗ v1 ⊖ num 100_000_000 ⊗ (v2 ⊖ v1)) tt),
        nat_abs_minus (x -ℤ pos 100_000_000 *ℤ s) (pos 100_000_000 *ℤ (c -ℤ s)),
        nat_abs_product (pos 100_000_000) (c -ℤ s),
        sine-first-close lacks lacks-most,
        gap,
        gaps_small,
      )

  pub cosine-true : Within (cosine (pos a)) (cosine_series a)
  unfolding lacks
  cosine-true = rw (cosine-first a h, complement-worth a h) (record { within = complement-close })

-- ---- the other signs

opposite-within : {x y : ℤ} → Within x y → Within (neg_ℤ x) (neg_ℤ y)
opposite-within {x} {y} h =
    record {
      within =
          omega (
            arith,
            h.within,
            nat_abs_opposite (pos common *ℤ x -ℤ pos 100_000_000 *ℤ y),
            ap nat_abs (ring (pos common ∷ x ∷ y ∷ []) (v0 ⊗ opp v1 ⊖ num 100_000_000 ⊗ opp v2) (opp (v0 ⊗ v1 ⊖ num 100_000_000 ⊗ v2)) tt),
          );
    }

-- ---- every angle

-- a quarter turn more, also at 90 degrees itself
sine-quarter : (m : ℕ) → m ≤ 270_000_000 → sine (pos (m + 90_000_000)) ≡ cosine (pos m)
sine-quarter zero h = sine-first 90_000_000 (omega arith) ∙ sym (cosine-first 0 (omega arith))
sine-quarter (suc m) h = sine-above (suc m + 90_000_000) (omega arith) (omega arith) ∙ ap (λ (n : ℕ). cosine (pos n)) (omega arith)

cosine-quarter : (m : ℕ) → m ≤ 270_000_000 → cosine (pos (m + 90_000_000)) ≡ neg_ℤ (sine (pos m))
cosine-quarter zero h = cosine-first 90_000_000 (omega arith) ∙ first_zero ∙ sym (ap neg_ℤ (sine-first 0 (omega arith) ∙ first_zero))
cosine-quarter (suc m) h =
    cosine-above (suc m + 90_000_000) (omega arith) (omega arith) ∙ ap (λ (n : ℕ). neg_ℤ (sine (pos n))) (omega arith)

module _ (m : ℕ) (h : m ≤ 90_000_000) where
  sine-half : sine (pos (m + 180_000_000)) ≡ neg_ℤ (sine (pos m))
  sine-half =
      ap (λ (n : ℕ). sine (pos n)) (omega arith) ∙ sine-quarter (m + 90_000_000) (omega arith) ∙ cosine-quarter m (omega arith)

  cosine-half : cosine (pos (m + 180_000_000)) ≡ neg_ℤ (cosine (pos m))
  cosine-half =
      ap (λ (n : ℕ). cosine (pos n)) (omega arith) ∙ cosine-quarter (m + 90_000_000) (omega arith) ∙ ap neg_ℤ (sine-quarter m (omega arith))

  sine-last : sine (pos (m + 270_000_000)) ≡ neg_ℤ (cosine (pos m))
  sine-last = ap (λ (n : ℕ). sine (pos n)) (omega arith) ∙ sine-quarter (m + 180_000_000) (omega arith) ∙ cosine-half

  cosine-last : cosine (pos (m + 270_000_000)) ≡ sine (pos m)
  cosine-last =
      ap (λ (n : ℕ). cosine (pos n)) (omega arith) ∙ cosine-quarter (m + 180_000_000) (omega arith) ∙ ap neg_ℤ sine-half
      ∙ neg_ℤ-neg_ℤ (sine (pos m))

-- q quarter turns and m more, up to 90 degrees, both ends included: at the border of two quadrants both series hold
module _ (m : ℕ) (h : m ≤ 90_000_000) where
  pub sine-in-quarter : (q : ℕ) → q < 4 → Within (sine (pos (m + q * 90_000_000))) (sine_quarter q m)
  unfolding sine_quarter
  sine-in-quarter zero l = rw (add-zero m) (sine-true m h)
  sine-in-quarter (suc zero) l = rw (sine-quarter m (omega arith)) (cosine-true m h)
  sine-in-quarter (suc (suc zero)) l = rw (sine-half m h) (opposite-within (sine-true m h))
  sine-in-quarter (suc (suc (suc zero))) l = rw (sine-last m h) (opposite-within (cosine-true m h))
  sine-in-quarter (suc (suc (suc (suc q)))) l = absurd (omega arith)

  pub cosine-in-quarter : (q : ℕ) → q < 4 → Within (cosine (pos (m + q * 90_000_000))) (cosine_quarter q m)
  unfolding cosine_quarter
  cosine-in-quarter zero l = rw (add-zero m) (cosine-true m h)
  cosine-in-quarter (suc zero) l = rw (cosine-quarter m (omega arith)) (opposite-within (sine-true m h))
  cosine-in-quarter (suc (suc zero)) l = rw (cosine-half m h) (opposite-within (cosine-true m h))
  cosine-in-quarter (suc (suc (suc zero))) l = rw (cosine-last m h) (sine-true m h)
  cosine-in-quarter (suc (suc (suc (suc q)))) l = absurd (omega arith)

module _ (z : ℤ) where
  a : ℕ
  a = reduced z

  parted : a % 90_000_000 + a / 90_000_000 * 90_000_000 ≡ a
  parted = omega arith

  a-below : a < 360_000_000
  unfolding a
  a-below = reduced_below z

  pub sine-everywhere : Within (sine z) (true_sine z)
  unfolding true_sine a
  sine-everywhere =
      rw (← sine-reduced z) (subst (λ (n : ℕ). Within (sine (pos n)) (sine_quarter (a / 90_000_000) (a % 90_000_000))) parted
      (sine-in-quarter (a % 90_000_000) (omega arith) (a / 90_000_000) (omega (arith, a-below))))

  pub cosine-everywhere : Within (cosine z) (true_cosine z)
  unfolding true_cosine a
  cosine-everywhere =
      rw (← cosine-reduced z) (subst (λ (n : ℕ). Within (cosine (pos n)) (cosine_quarter (a / 90_000_000) (a % 90_000_000))) parted
      (cosine-in-quarter (a % 90_000_000) (omega arith) (a / 90_000_000) (omega (arith, a-below))))

-- "within two units of 10^8 times the sine series" and the cosine's, at every whole angle, of either sign and any turns
pub two_units : (z : ℤ) → TwoUnits (sine z) (true_sine z) × TwoUnits (cosine z) (true_cosine z)
two_units z = (record { two_units = omega (arith, (sine-everywhere z).within) }, record { two_units = omega (arith, (cosine-everywhere z).within) })
