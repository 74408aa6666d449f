-- The rule at z millionths of a degree against the true sine and cosine at z and w f-ths more, |w| at most 3f: 1.79
-- units, and 1.75 for each millionth that w makes (`sine-angle`, `cosine-angle`). Why: sin z is 1.79 off; the rest
-- turns it by cos z·x, x = 1.74533·10^-8 a millionth; what 1 - x²/2 takes away is far below.
use Rattle.std.specs.Prelude.{◌≡◌, [], ◌∷◌, ℕ, ◌+◌, ◌*◌, ◌≤◌, ℤ, ◌+ℤ◌, ◌-ℤ◌, ◌*ℤ◌}
use Rattle.std.proofs.Math.Path.{ap}
use native.Mathlib.Omega.{arith}
use Rattle.std.proofs.Common.{mul-le-mul_left, leb→le}
use Rattle.std.proofs.Math.IntN.{pos, neg_ℤ, nat_abs, neg_ℤ-neg_ℤ}
use Rattle.rounding.specs.laws.Order.{≤-parts, parts-≤, nat_abs_sum, nat_abs_minus, nat_abs_opposite, nat_abs_product, nat_abs_product_le}
use Rattle.rounding.specs.laws.Ring.{num, ◌⊕◌, ◌⊖◌, ◌⊗◌, opp, ring, v0, v1, v2, v3, v4, v5}
use Rattle.rounding.specs.laws.Cert.{fact, leq, lit, ◌⊞◌, ◌⊠◌, certify}
use Rattle.sine.specs.Sine.{sine, cosine}
use Rattle.sine.specs.laws.SineLaws.{sine-size, cosine-size}
use Rattle.sine_accuracy.specs.Series.{denominator, common}
use Rattle.sine_accuracy.specs.TrueSine.{true_sine, true_cosine, Within}
use Rattle.sine_accuracy.specs.Angles.{arc_of, rest_common, sine_rest, cosine_rest, angle_common, sine_at, cosine_at}
use Rattle.sine_accuracy.proofs.laws.EveryAngle.{sine-everywhere, cosine-everywhere}

-- a true sine or cosine is at most 1.79 units above 1 in size
pub true_size : (s S : ℤ) → nat_abs s ≤ 100_000_000 → Within s S → 10_000_000_000 * nat_abs S ≤ 10_000_000_179 * common
true_size s S h t =
    let e : nat_abs (pos 100_000_000 *ℤ S) ≤ nat_abs (pos common *ℤ s) + nat_abs (pos common *ℤ s -ℤ pos 100_000_000 *ℤ S) =
    omega (
      arith,
      ap nat_abs (ring ((pos common *ℤ s) ∷ (pos 100_000_000 *ℤ S) ∷ []) v1 (v0 ⊖ (v0 ⊖ v1)) tt),
      nat_abs_minus (pos common *ℤ s) (pos common *ℤ s -ℤ pos 100_000_000 *ℤ S),
    ) in
    omega (arith, e, t.within, nat_abs_product (pos 100_000_000) S, nat_abs_product_le (pos common) s common 100_000_000 (omega arith) h)

by_products : {a b c d : ℕ} → a ≡ b → c ≡ d → a * c ≡ b * d
by_products e f = rw (e, f)

module _ (K D : ℕ) (s S C X : ℤ) where
  -- how far s is from S turned by X over D
  turned : ℤ
  turned = pos (K * (2 * D * D)) *ℤ s -ℤ pos 100_000_000 *ℤ (S *ℤ (pos (2 * D * D) -ℤ X *ℤ X) +ℤ C *ℤ (pos (2 * D) *ℤ X))

  -- three terms: the rule's error, the square of the rest, the rest
  turned-size : nat_abs turned
      ≤ (2 * D * D + nat_abs X * nat_abs X) * nat_abs (pos K *ℤ s -ℤ pos 100_000_000 *ℤ S) + K * nat_abs s * (nat_abs X * nat_abs X) + 100_000_000 * nat_abs C * (2 * D * nat_abs X)
  unfolding turned
  turned-size =
      let k = pos K in
      let a = pos (2 * D * D) -ℤ X *ℤ X in
      let b = k *ℤ s -ℤ pos 100_000_000 *ℤ S in
      let c = k *ℤ s *ℤ (X *ℤ X) in
      let d = pos 100_000_000 *ℤ C *ℤ (pos (2 * D) *ℤ X) in
      let e : turned ≡ a *ℤ b +ℤ c -ℤ d = ring (k ∷ pos D ∷ s ∷ S ∷ C ∷ X ∷ [])
      (v0 ⊗ (num 2 ⊗ v1 ⊗ v1) ⊗ v2 ⊖ num 100_000_000 ⊗ (v3 ⊗ (num 2 ⊗ v1 ⊗ v1 ⊖ v5 ⊗ v5) ⊕ v4 ⊗ (num 2 ⊗ v1 ⊗ v5)))
      ((num 2 ⊗ v1 ⊗ v1 ⊖ v5 ⊗ v5) ⊗ (v0 ⊗ v2 ⊖ num 100_000_000 ⊗ v3) ⊕ v0 ⊗ v2 ⊗ (v5 ⊗ v5) ⊖ num 100_000_000 ⊗ v4 ⊗ (num 2 ⊗ v1 ⊗ v5)) tt in
      let ha : nat_abs a ≤ 2 * D * D + nat_abs X * nat_abs X = omega (arith, nat_abs_minus (pos (2 * D * D)) (X *ℤ X), nat_abs_product X X) in
      let hc : nat_abs c ≤ K * nat_abs s * (nat_abs X * nat_abs X) = omega (arith, nat_abs_product (k *ℤ s) (X *ℤ X), by_products (nat_abs_product k s) (nat_abs_product X X)) in
      let hd : nat_abs d ≤ 100_000_000 * nat_abs C * (2 * D * nat_abs X) =
      omega (arith, nat_abs_product (pos 100_000_000 *ℤ C) (pos (2 * D) *ℤ X), by_products (nat_abs_product (pos 100_000_000) C) (nat_abs_product (pos (2 * D)) X)) in
      omega (
        arith,
        ap nat_abs e,
        nat_abs_minus (a *ℤ b +ℤ c) d,
        nat_abs_sum (a *ℤ b) c,
        nat_abs_product_le a b (2 * D * D + nat_abs X * nat_abs X) (nat_abs b) ha (omega arith),
        hc,
        hd,
      )

-- in numbers: y f-ths of a millionth make X over D; what X and its square make is at most 1.75 a millionth
room : (f y X D : ℕ) → 1_000_000_000_000_000 * (f * X) ≤ 17_453_293 * (y * D) → 1000 * X ≤ D
    → 10_000_000_179 * (f * X * X) + 20_000_000_358 * (f * X * D) ≤ 350 * (y * D * D)
room f y X D h k =
    omega (
      arith,
      ≤-parts (certify 999_999_999_999_999 (pos f ∷ pos y ∷ pos X ∷ pos D ∷ [])
          (num 10_000_000_179 ⊗ (v0 ⊗ v2 ⊗ v2) ⊕ num 20_000_000_358 ⊗ (v0 ⊗ v2 ⊗ v3)) (num 350 ⊗ (v1 ⊗ v3 ⊗ v3))
          (lit 10_000_000_179 ⊠ (fact v2 (parts-≤ (omega arith)) ⊞ lit 2 ⊠ fact v3 (parts-≤ (omega arith))) ⊠ leq (num 1_000_000_000_000_000 ⊗ (v0 ⊗ v2))
          (num 17_453_293 ⊗ (v1 ⊗ v3)) (parts-≤ (omega arith))
          ⊞ fact v1 (parts-≤ (omega arith)) ⊠ fact v3 (parts-≤ (omega arith)) ⊠ (lit 174_532_933_124_140 ⊠ leq (num 1000 ⊗ v2) v3 (parts-≤ (omega arith)) ⊞ lit 553
          ⊠ fact v2 (parts-≤ (omega arith)) ⊞ lit 759_600_818_596_966 ⊠ fact v3 (parts-≤ (omega arith)))) tt),
    )

module _ (K f y D : ℕ) (s S C X : ℤ) where
  turned-close : 100 * nat_abs (pos K *ℤ s -ℤ pos 100_000_000 *ℤ S) ≤ 179 * K → nat_abs s ≤ 100_000_000 → 10_000_000_000 * nat_abs C ≤ 10_000_000_179 * K
      → 1_000_000_000_000_000 * (f * nat_abs X) ≤ 17_453_293 * (y * D) → 1000 * nat_abs X ≤ D
      → 100 * (f * nat_abs (turned K D s S C X)) ≤ (179 * f + 175 * y) * (K * (2 * D * D))
  turned-close hS hs hC hX hD =
      let x = nat_abs X in
      let t = nat_abs (turned K D s S C X) in
      let e = nat_abs (pos K *ℤ s -ℤ pos 100_000_000 *ℤ S) in
      let A = 2 * D * D + x * x in
      let first : 100 * (A * e) ≤ A * (179 * K) = omega (arith, mul-le-mul_left A hS) in
      let second : K * nat_abs s * (x * x) ≤ 100_000_000 * (K * (x * x)) = omega (arith, mul-le-mul_left (K * (x * x)) hs) in
      let third : 10_000_000_000 * nat_abs C * (2 * D * x) ≤ 10_000_000_179 * K * (2 * D * x) = omega (arith, mul-le-mul_left (2 * D * x) hC) in
      let all : 100 * t ≤ 179 * (K * (2 * D * D)) + K * (10_000_000_179 * (x * x) + 20_000_000_358 * (x * D)) =
      omega (arith, turned-size K D s S C X, first, second, third) in
      omega (arith, mul-le-mul_left f all, mul-le-mul_left K (room f y x D hX hD))

-- ---- the angle

abbrev π : ℕ
π = 314_159_265_358_979_323_846

arc_in_degree : 1_000_000_000_000_000 * π ≤ 17_453_293 * denominator
unfolding denominator
arc_in_degree = leb→le (1_000_000_000_000_000 * π) (17_453_293 * denominator) tt

arc_small : 3000 * π ≤ denominator
unfolding denominator
arc_small = leb→le (3000 * π) denominator tt

arcs : (f y p d a : ℕ) → 1_000_000_000_000_000 * p ≤ 17_453_293 * d → a ≡ y * p → 1_000_000_000_000_000 * (f * a) ≤ 17_453_293 * (y * (d * f))
arcs f y p d a h e = rw e (omega (arith, mul-le-mul_left (f * y) h))

less_arcs : (f y p d a : ℕ) → 3000 * p ≤ d → y ≤ 3 * f → a ≡ y * p → 1000 * a ≤ d * f
less_arcs f y p d a h k e = rw e (omega (arith, mul-le-mul_left f h, mul-le-mul_left p k))

module _ (f : ℕ) (z w : ℤ) (h : nat_abs w ≤ 3 * f) where
  arc-size : nat_abs (arc_of w) ≡ nat_abs w * π
  unfolding arc_of
  arc-size = nat_abs_product w (pos π)

  -- of a number s, of its true value S and of the one that turns with it, C
  rest-close : (s S C : ℤ) → nat_abs s ≤ 100_000_000 → Within s S → 10_000_000_000 * nat_abs C ≤ 10_000_000_179 * common
      → 100 * (f * nat_abs (turned common (denominator * f) s S C (arc_of w))) ≤ (179 * f + 175 * nat_abs w) * (common * (2 * (denominator * f) * (denominator * f)))
  rest-close s S C hs hS hC =
      turned-close common f (nat_abs w) (denominator * f) s S C (arc_of w) hS.within hs hC
      (arcs f (nat_abs w) π denominator (nat_abs (arc_of w)) arc_in_degree arc-size)
      (less_arcs f (nat_abs w) π denominator (nat_abs (arc_of w)) arc_small h arc-size)

  pub sine-angle : 100 * (f * nat_abs (pos (angle_common f) *ℤ sine z -ℤ pos 100_000_000 *ℤ sine_at f z w)) ≤ (179 * f + 175 * nat_abs w) * angle_common f
  unfolding angle_common rest_common sine_at sine_rest cosine_rest turned
  sine-angle =
      rest-close (sine z) (true_sine z) (true_cosine z) (sine-size z) (sine-everywhere z)
      (true_size (cosine z) (true_cosine z) (cosine-size z) (cosine-everywhere z))

  pub cosine-angle : 100 * (f * nat_abs (pos (angle_common f) *ℤ cosine z -ℤ pos 100_000_000 *ℤ cosine_at f z w)) ≤ (179 * f + 175 * nat_abs w) * angle_common f
  unfolding angle_common rest_common cosine_at sine_rest cosine_rest turned
  cosine-angle =
      let D = denominator * f in
      let S = true_sine z in
      let c = true_cosine z in
      let X = arc_of w in
      let e : S *ℤ (pos (2 * D) *ℤ X) ≡ neg_ℤ (neg_ℤ S *ℤ (pos (2 * D) *ℤ X)) = ring (S ∷ (pos (2 * D) *ℤ X) ∷ []) (v0 ⊗ v1) (opp (opp v0 ⊗ v1)) tt in
      rw (e, neg_ℤ-neg_ℤ (neg_ℤ S *ℤ (pos (2 * D) *ℤ X)))
      (rest-close (cosine z) c (neg_ℤ S) (cosine-size z) (cosine-everywhere z)
      (rw (nat_abs_opposite S) (true_size (sine z) S (sine-size z) (sine-everywhere z))))
