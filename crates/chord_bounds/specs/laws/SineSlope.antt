-- The first differences of the true sine and of the sine rule, at any two whole angles.
--   true_bent        `true_sine` as a function whose second differences are bounded
--   true_slope       10^13 |t(z+1) - t(z)| ≤ 175,200 common, where t is `true_sine`
--   sine_change      10^5 |sin x - sin y| ≤ 175,200 |x - y| + 358,000, by the rule; cosine_change the same
-- Why: the first differences of the series (SeriesBend), and the rule's sine is within 1.79 units of the true one.
use Rattle.std.specs.Prelude.{◌≡◌, [], ◌∷◌, ◌+◌, ◌*◌, ◌≤◌, ◌<◌, ℤ, pos, nat_abs, ◌+ℤ◌, ◌-ℤ◌, ◌*ℤ◌}
use Rattle.std.proofs.Common.{ap, arith, le_of_mul-le-mul_right, leb→le}
use Rattle.rounding.specs.laws.Order.{nat_abs_sum, nat_abs_minus, nat_abs_product}
use Rattle.rounding.specs.laws.Ring.{num, ◌⊕◌, ◌⊖◌, ◌⊗◌, ring, v0, v1, v2, v3, v4}
use Rattle.sine_table.specs.Table.{factorial}
use Rattle.sine.specs.Sine.{sine, cosine}
use Rattle.chord_bounds.specs.laws.Turns.{cosine_as_sine}
use Rattle.sine_accuracy.specs.Series.{denominator, common}
use Rattle.sine_accuracy.specs.TrueSine.{true_sine}
use Rattle.sine_accuracy.proofs.laws.EveryAngle.{sine-everywhere}
use Rattle.chord_bounds.specs.laws.TrueBend.{true-step, true-bend}
use Rattle.chord_bounds.specs.laws.Tangent.{Bent, step, lipschitz}

pub common_positive : 0 < common
unfolding factorial denominator common
common_positive = leb→le 1 common tt

pub true_bent : Bent 10_000_000_000_000_000_000 (3060 * common) true_sine
true_bent = record { at = true-bend }

module _ (x y : ℤ) where
  abbrev off : ℤ → ℤ
  off z = pos common *ℤ sine z -ℤ pos 100_000_000 *ℤ true_sine z

  -- the rule's sine changes as the true one, up to twice 1.79 units
  rule-from-true : 100 * (common * nat_abs (sine x -ℤ sine y)) ≤ 100 * (100_000_000 * nat_abs (true_sine x -ℤ true_sine y)) + 358 * common
  rule-from-true =
      omega (
        arith,
        (sine-everywhere x).within,
        (sine-everywhere y).within,
        ap nat_abs (ring (pos common ∷ sine x ∷ sine y ∷ true_sine x ∷ true_sine y ∷ []) (v0 ⊗ (v1 ⊖ v2))
            (num 100_000_000 ⊗ (v3 ⊖ v4) ⊕ (v0 ⊗ v1 ⊖ num 100_000_000 ⊗ v3 ⊖ (v0 ⊗ v2 ⊖ num 100_000_000 ⊗ v4))) tt),
        nat_abs_product (pos 100_000_000) (true_sine x -ℤ true_sine y),
        nat_abs_sum (pos 100_000_000 *ℤ (true_sine x -ℤ true_sine y)) (off x -ℤ off y),
        nat_abs_minus (off x) (off y),
        nat_abs_product (pos common) (sine x -ℤ sine y),
      )

pub true_slope : (y : ℤ) → 10_000_000_000_000 * nat_abs (step true_sine y) ≤ 175_200 * common
true_slope y = omega (arith, true-step y)

pub sine_change : (x y : ℤ) → 100_000 * nat_abs (sine x -ℤ sine y) ≤ 175_200 * nat_abs (x -ℤ y) + 358_000
sine_change x y =
    le_of_mul-le-mul_right {m = 100_000 * nat_abs (sine x -ℤ sine y)} {n = 175_200 * nat_abs (x -ℤ y) + 358_000} {k = common}
    (omega (arith, rule-from-true x y, lipschitz 10_000_000_000_000 (175_200 * common) true_sine true_slope x y)) common_positive

pub cosine_change : (x y : ℤ) → 100_000 * nat_abs (cosine x -ℤ cosine y) ≤ 175_200 * nat_abs (x -ℤ y) + 358_000
cosine_change x y =
    let q = pos 90_000_000 in
    let d : x +ℤ q -ℤ (y +ℤ q) ≡ x -ℤ y = ring (x ∷ y ∷ q ∷ []) (v0 ⊕ v2 ⊖ (v1 ⊕ v2)) (v0 ⊖ v1) tt in
    rw (cosine_as_sine x, cosine_as_sine y) (rw d at (sine_change (x +ℤ q) (y +ℤ q)))
