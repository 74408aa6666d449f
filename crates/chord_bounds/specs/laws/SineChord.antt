-- The sine rule along three angles a, b, c, of which b is i seconds after a and j seconds before c: how far the sine leaves its chord.
--   sine-chord, cosine-chord   where |a - b| ≤ ω i and |c - b| ≤ ω j,
--     2·10^10 |deviation of the sine| ≤ 3.504·10^10 |deviation of the angle| + 306 (ω² + ω) i j (i + j) + 7.16·10^10 (i + j)
-- So but for roundings, which are 3.58 units, the deviation is 1.53·10^-8 ω² i j, and 1.752 units for each millionth of a degree that the angle itself deviates.
use Rattle.std.specs.Prelude.{◌≡◌, [], ◌∷◌, ℕ, zero, suc, ◌+◌, ◌*◌, ◌≤◌, ℤ, pos, nat_abs, ◌+ℤ◌, ◌-ℤ◌, ◌*ℤ◌}
use Rattle.std.proofs.Common.{ap, arith, mul-le-mul, mul-le-mul_left, mul-le-mul_right, le_of_mul-le-mul_right}
use Rattle.rounding.specs.laws.Order.{nat_abs_product}
use Rattle.rounding.specs.laws.Ring.{◌⊕◌, ◌⊖◌, ◌⊗◌, ring, v0, v1, v2, v3, v4, v5}
use Rattle.sine.specs.Sine.{sine, cosine}
use Rattle.chord_bounds.specs.laws.Turns.{cosine_as_sine}
use Rattle.sine_accuracy.specs.Series.{common}
use Rattle.sine_accuracy.specs.TrueSine.{true_sine}
use Rattle.sine_accuracy.proofs.laws.EveryAngle.{sine-everywhere}
use Rattle.chord_bounds.specs.laws.Tangent.{step, tangent}
use Rattle.chord_bounds.specs.laws.SineSlope.{common_positive, true_bent, true_slope}
use Rattle.chord_bounds.specs.laws.Deviation.{deviation, deviation-left, deviation-near, deviation-line}

self_square : (i : ℕ) → i ≤ i * i
self_square zero = omega arith
self_square (suc i) = omega arith

grown : (n ω i : ℕ) → n ≤ ω * i → n * n + n ≤ (ω * ω + ω) * (i * i)
grown n ω i h = omega (arith, mul-le-mul h h, h, mul-le-mul_left ω (self_square i))

module _ (i j ω : ℕ) (a b c : ℤ) (ha : nat_abs (a -ℤ b) ≤ ω * i) (hc : nat_abs (c -ℤ b) ≤ ω * j) where
  abbrev D : ℕ
  D = nat_abs (deviation i j a b c)

  abbrev T : ℕ
  T = nat_abs (deviation i j (true_sine a) (true_sine b) (true_sine c))

  abbrev S : ℕ
  S = nat_abs (deviation i j (sine a) (sine b) (sine c))

  true-chord : 20_000_000_000_000_000_000 * T ≤ 20_000_000_000_000_000_000 * (nat_abs (step true_sine b) * D) + 3060 * common * ((ω * ω + ω) * (i * j * (i + j)))
  true-chord =
      let s = step true_sine b in
      let x = nat_abs (true_sine a -ℤ true_sine b -ℤ (a -ℤ b) *ℤ s) in
      let y = nat_abs (true_sine c -ℤ true_sine b -ℤ (c -ℤ b) *ℤ s) in
      let hx : 20_000_000_000_000_000_000 * x ≤ 3060 * common * ((ω * ω + ω) * (i * i)) =
      omega (
        arith,
        tangent 10_000_000_000_000_000_000 (3060 * common) true_sine true_bent a b,
        mul-le-mul_left (3060 * common) (grown (nat_abs (a -ℤ b)) ω i ha),
      ) in
      let hy : 20_000_000_000_000_000_000 * y ≤ 3060 * common * ((ω * ω + ω) * (j * j)) =
      omega (
        arith,
        tangent 10_000_000_000_000_000_000 (3060 * common) true_sine true_bent c b,
        mul-le-mul_left (3060 * common) (grown (nat_abs (c -ℤ b)) ω j hc),
      ) in
      omega (arith, deviation-line i j s a b c (true_sine a) (true_sine b) (true_sine c), mul-le-mul_left j hx, mul-le-mul_left i hy)

  rule-chord : 100 * (common * S) ≤ 10_000_000_000 * T + 358 * common * (i + j)
  rule-chord =
      omega (
        arith,
        deviation-near i j 100 common (179 * common) (sine a) (sine b) (sine c)
            (pos 100_000_000 *ℤ true_sine a) (pos 100_000_000 *ℤ true_sine b) (pos 100_000_000 *ℤ true_sine c)
            (sine-everywhere a).within (sine-everywhere b).within (sine-everywhere c).within,
        ap nat_abs (deviation-left i j (pos 100_000_000) (true_sine a) (true_sine b) (true_sine c)),
        nat_abs_product (pos 100_000_000) (deviation i j (true_sine a) (true_sine b) (true_sine c)),
      )

  pub sine-chord : 20_000_000_000 * S ≤ 35_040_000_000 * D + 306 * ((ω * ω + ω) * (i * j * (i + j))) + 71_600_000_000 * (i + j)
  sine-chord =
      le_of_mul-le-mul_right {m = 20_000_000_000 * S} {n = 35_040_000_000 * D + 306 * ((ω * ω + ω) * (i * j * (i + j))) + 71_600_000_000 * (i + j)} {k = common}
      (omega (arith, true-chord, rule-chord, mul-le-mul_right D (true_slope b))) common_positive

module _ (i j ω : ℕ) (a b c : ℤ) (ha : nat_abs (a -ℤ b) ≤ ω * i) (hc : nat_abs (c -ℤ b) ≤ ω * j) where
  pub cosine-chord : 20_000_000_000 * nat_abs (deviation i j (cosine a) (cosine b) (cosine c))
      ≤ 35_040_000_000 * nat_abs (deviation i j a b c) + 306 * ((ω * ω + ω) * (i * j * (i + j))) + 71_600_000_000 * (i + j)
  cosine-chord =
      let q = pos 90_000_000 in
      let p : a +ℤ q -ℤ (b +ℤ q) ≡ a -ℤ b = ring (a ∷ b ∷ q ∷ []) (v0 ⊕ v2 ⊖ (v1 ⊕ v2)) (v0 ⊖ v1) tt in
      let r : c +ℤ q -ℤ (b +ℤ q) ≡ c -ℤ b = ring (c ∷ b ∷ q ∷ []) (v0 ⊕ v2 ⊖ (v1 ⊕ v2)) (v0 ⊖ v1) tt in
      let d : deviation i j (a +ℤ q) (b +ℤ q) (c +ℤ q) ≡ deviation i j a b c
      = ring (pos i ∷ pos j ∷ a ∷ b ∷ c ∷ q ∷ []) ((v0 ⊕ v1) ⊗ (v3 ⊕ v5) ⊖ (v1 ⊗ (v2 ⊕ v5) ⊕ v0 ⊗ (v4 ⊕ v5))) ((v0 ⊕ v1) ⊗ v3 ⊖ (v1 ⊗ v2 ⊕ v0 ⊗ v4)) tt in
      rw (cosine_as_sine a, cosine_as_sine b, cosine_as_sine c)
      (omega (arith, sine-chord i j ω (a +ℤ q) (b +ℤ q) (c +ℤ q) (rw p ha) (rw r hc), ap nat_abs d))
