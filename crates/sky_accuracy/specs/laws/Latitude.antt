-- What is known of a station's latitude, of the rule's C and of the true n/m, and what follows: each of C and n/m is
-- about 1. One set of facts for the cosine and for the sine: p is the one and q the other, with the weights a = 10^8
-- and b = E, or the other way round; P and Q are their true values over K.
use Rattle.std.specs.Prelude.{[], ◌∷◌, ℕ, ◌*◌, ◌≤◌, ℤ, neg_ℤ, nat_abs, ◌+ℤ◌, ◌-ℤ◌, ◌*ℤ◌, ◌≤ℤ◌}
use Rattle.std.proofs.Common.{arith, mul-pos}
use Rattle.std.proofs.Math.IntN.{pos}
use Rattle.std.specs.Int.Signed.{clash_ℤ}
use Rattle.rounding.specs.laws.Order.{≤-parts, parts-≤, by_contra, le_nat_abs, neg_nat_abs}
use Rattle.rounding.specs.laws.Ring.{num, ◌⊕◌, ◌⊖◌, ◌⊗◌, opp, v0, v1, v2, v3, v4}
use Rattle.rounding.specs.laws.Cert.{fact, leq, less, lit, sq, ◌⊞◌, ◌⊠◌, certify, certify-<}
use Rattle.sky_accuracy.specs.laws.Sizes.{Known, OnCircle, times}
use Rattle.sky_accuracy.specs.laws.Circle.{squares}

-- a weight is E or 10^8, or between
pub record Weight (a : ℕ) : Type 0 where
  pub low : 99_330_658 ≤ a
  pub high : a ≤ 100_000_000

-- a p² + b q²
unfoldable pub weighted : (a b : ℕ) (p q : ℤ) → ℤ
weighted a b p q = pos a *ℤ (p *ℤ p) +ℤ pos b *ℤ (q *ℤ q)

pub record Latitude (K m n a b : ℕ) (C p q P Q : ℤ) : Type 0 where
  pub some_K : 1 ≤ K
  pub some : 1 ≤ m
  pub weight_a : Weight a
  pub weight_b : Weight b
  pub known_p : Known K p P
  pub known_q : Known K q Q
  pub circle : OnCircle K P Q
  pub C_positive : pos 0 ≤ℤ C
  pub C_most : C ≤ℤ pos 100_600_000
  pub rule : nat_abs (C *ℤ C *ℤ weighted a b p q -ℤ pos 10_000_000_000_000_000_000_000_000_000_000_000_000_000) ≤ 352_000_000_000_000_000_000_000_000_000_000
  pub exact : 10_000_000_000_000_000 * nat_abs (pos (n * n) *ℤ weighted a b P Q -ℤ pos (100_000_000 * (m * m) * (K * K))) ≤ 100_000_000 * (m * m) * (K * K)

pub up : {x y : ℕ} → x ≤ y → pos x ≤ℤ pos y
up h = parts-≤ (omega arith)

pub down : {x y : ℕ} → pos x ≤ℤ pos y → x ≤ y
down h = omega (arith, ≤-parts h)

pub natural : (x : ℕ) → pos 0 ≤ℤ pos x
natural x = parts-≤ (omega arith)

module _ {K m n a b p : ℕ} {C q P Q : ℤ} (x : Latitude K m n a b C (pos p) q P Q) where
  abbrev W° : ℤ
  W° = weighted a b (pos p) q

  abbrev W* : ℤ
  W* = weighted a b P Q

  pub circle-high : (pos 10_000_000_000_000_000 *ℤ (P *ℤ P +ℤ Q *ℤ Q -ℤ pos (K * K))) ≤ℤ pos (K * K)
  circle-high = le_nat_abs _ (times 10_000_000_000_000_000 (P *ℤ P +ℤ Q *ℤ Q -ℤ pos (K * K)) x.circle.on)

  circle-low : neg_ℤ (pos (K * K)) ≤ℤ (pos 10_000_000_000_000_000 *ℤ (P *ℤ P +ℤ Q *ℤ Q -ℤ pos (K * K)))
  circle-low = neg_nat_abs _ (times 10_000_000_000_000_000 (P *ℤ P +ℤ Q *ℤ Q -ℤ pos (K * K)) x.circle.on)

  rule-circle : nat_abs (pos p *ℤ pos p +ℤ q *ℤ q -ℤ pos 10_000_000_000_000_000) ≤ 800_000_000
  rule-circle = squares K x.some_K (pos p) q P Q x.known_p x.known_q x.circle

  pub true-low : (pos 99_330_657 *ℤ pos (K * K)) ≤ℤ W*
  unfolding weighted
  true-low =
      let c = num 10_000_000_000_000_000 ⊗ (v1 ⊗ v1 ⊕ v2 ⊗ v2 ⊖ v0 ⊗ v0) in
      certify 9_999_999_999_999_999 (pos K ∷ P ∷ Q ∷ pos a ∷ pos b ∷ []) (num 99_330_657 ⊗ (v0 ⊗ v0)) (v3 ⊗ (v1 ⊗ v1) ⊕ v4 ⊗ (v2 ⊗ v2))
      (lit 99_330_658 ⊠ leq (opp (v0 ⊗ v0)) c circle-low
      ⊞ lit 10_000_000_000_000_000 ⊠ (leq (num 99_330_658) v3 (up x.weight_a.low) ⊠ sq v1 ⊞ leq (num 99_330_658) v4 (up x.weight_b.low) ⊠ sq v2)
      ⊞ lit 9_999_999_900_669_342 ⊠ sq v0) tt

  pub true-high : W* ≤ℤ (pos 100_000_001 *ℤ pos (K * K))
  unfolding weighted
  true-high =
      let c = num 10_000_000_000_000_000 ⊗ (v1 ⊗ v1 ⊕ v2 ⊗ v2 ⊖ v0 ⊗ v0) in
      certify 9_999_999_999_999_999 (pos K ∷ P ∷ Q ∷ pos a ∷ pos b ∷ []) (v3 ⊗ (v1 ⊗ v1) ⊕ v4 ⊗ (v2 ⊗ v2)) (num 100_000_001 ⊗ (v0 ⊗ v0))
      (lit 100_000_000 ⊠ leq c (v0 ⊗ v0) circle-high
      ⊞ lit 10_000_000_000_000_000 ⊠ (leq v3 (num 100_000_000) (up x.weight_a.high) ⊠ sq v1 ⊞ leq v4 (num 100_000_000) (up x.weight_b.high) ⊠ sq v2)
      ⊞ lit 9_999_999_900_000_000 ⊠ sq v0) tt

  pub rule-low : pos 993_306_500_000_000_000_000_000 ≤ℤ W°
  unfolding weighted
  rule-low =
      certify 0 (pos p ∷ q ∷ pos a ∷ pos b ∷ []) (num 993_306_500_000_000_000_000_000) (v2 ⊗ (v0 ⊗ v0) ⊕ v3 ⊗ (v1 ⊗ v1))
      (lit 99_330_658 ⊠ leq (opp (num 800_000_000)) (v0 ⊗ v0 ⊕ v1 ⊗ v1 ⊖ num 10_000_000_000_000_000) (neg_nat_abs _ rule-circle)
      ⊞ leq (num 99_330_658) v2 (up x.weight_a.low) ⊠ sq v0 ⊞ leq (num 99_330_658) v3 (up x.weight_b.low) ⊠ sq v1
      ⊞ lit 535_473_600_000_000) tt

  pub rule-high : W° ≤ℤ pos 1_000_000_080_000_000_000_000_000
  unfolding weighted
  rule-high =
      certify 0 (pos p ∷ q ∷ pos a ∷ pos b ∷ []) (v2 ⊗ (v0 ⊗ v0) ⊕ v3 ⊗ (v1 ⊗ v1)) (num 1_000_000_080_000_000_000_000_000)
      (lit 100_000_000 ⊠ leq (v0 ⊗ v0 ⊕ v1 ⊗ v1 ⊖ num 10_000_000_000_000_000) (num 800_000_000) (le_nat_abs _ rule-circle)
      ⊞ leq v2 (num 100_000_000) (up x.weight_a.high) ⊠ sq v0 ⊞ leq v3 (num 100_000_000) (up x.weight_b.high) ⊠ sq v1) tt

  pub true-positive : pos 0 ≤ℤ W*
  true-positive = certify 0 (W* ∷ pos K ∷ []) (num 0) v0 (leq (num 99_330_657 ⊗ (v1 ⊗ v1)) v0 true-low ⊞ lit 99_330_657 ⊠ sq v1) tt

  pub rule-positive : pos 0 ≤ℤ W°
  rule-positive = certify 0 (W° ∷ []) (num 0) v0 (leq (num 993_306_500_000_000_000_000_000) v0 rule-low ⊞ lit 993_306_500_000_000_000_000_000) tt

  -- ---- C and n/m
  pub C-least : pos 99_990_000 ≤ℤ C
  C-least =
      by_contra (pos 99_990_000) C
      (λ g. clash_ℤ
      (certify-< 0 (C ∷ W° ∷ []) (v0 ⊗ v0 ⊗ v1 ⊖ num 10_000_000_000_000_000_000_000_000_000_000_000_000_000) (opp (num 352_000_000_000_000_000_000_000_000_000_000))
      (fact v1 rule-positive ⊠ (less v0 (num 99_990_000) g ⊞ lit 1) ⊠ (less v0 (num 99_990_000) g ⊞ lit 1 ⊞ lit 2 ⊠ fact v0 x.C_positive)
      ⊞ lit 9_998_000_100_000_000 ⊠ leq v1 (num 1_000_000_080_000_000_000_000_000) rule-high ⊞ lit 1_998_748_159_991_999_999_999_999_999_999_999_999) tt)
      (neg_nat_abs (C *ℤ C *ℤ W° -ℤ pos 10_000_000_000_000_000_000_000_000_000_000_000_000_000) x.rule))

  -- n²·W* is 10^8·m²·K², both ways
  exact-high : (pos 10_000_000_000_000_000 *ℤ (pos n *ℤ pos n *ℤ W* -ℤ pos 100_000_000 *ℤ (pos m *ℤ pos m) *ℤ (pos K *ℤ pos K)))
      ≤ℤ (pos 100_000_000 *ℤ (pos m *ℤ pos m) *ℤ (pos K *ℤ pos K))
  exact-high = le_nat_abs _ (times 10_000_000_000_000_000 (pos (n * n) *ℤ W* -ℤ pos (100_000_000 * (m * m) * (K * K))) x.exact)

  exact-low : neg_ℤ (pos 100_000_000 *ℤ (pos m *ℤ pos m) *ℤ (pos K *ℤ pos K))
      ≤ℤ (pos 10_000_000_000_000_000 *ℤ (pos n *ℤ pos n *ℤ W* -ℤ pos 100_000_000 *ℤ (pos m *ℤ pos m) *ℤ (pos K *ℤ pos K)))
  exact-low = neg_nat_abs _ (times 10_000_000_000_000_000 (pos (n * n) *ℤ W* -ℤ pos (100_000_000 * (m * m) * (K * K))) x.exact)

  whole : pos 1 ≤ℤ (pos m *ℤ pos m *ℤ (pos K *ℤ pos K))
  whole = parts-≤ (omega (arith, mul-pos (mul-pos x.some x.some) (mul-pos x.some_K x.some_K)))

  -- 10,000 n < 9999 m would make n²·W* too small
  pub n-least : (pos 9999 *ℤ pos m) ≤ℤ (pos 10_000 *ℤ pos n)
  n-least =
      by_contra (pos 9999 *ℤ pos m) (pos 10_000 *ℤ pos n)
      (λ g. clash_ℤ
      (certify-< 0 (pos n ∷ W* ∷ pos m ∷ pos K ∷ [])
      (num 10_000_000_000_000_000 ⊗ (v0 ⊗ v0 ⊗ v1 ⊖ num 100_000_000 ⊗ (v2 ⊗ v2) ⊗ (v3 ⊗ v3))) (opp (num 100_000_000 ⊗ (v2 ⊗ v2) ⊗ (v3 ⊗ v3)))
      (lit 100_000_000 ⊠ fact v1 true-positive ⊠ (less (num 10_000 ⊗ v0) (num 9999 ⊗ v2) g ⊞ lit 1)
      ⊠ (less (num 10_000 ⊗ v0) (num 9999 ⊗ v2) g ⊞ lit 1 ⊞ lit 20_000 ⊠ fact v0 (natural n))
      ⊞ lit 9_998_000_100_000_000 ⊠ sq v2 ⊠ leq v1 (num 100_000_001 ⊗ (v3 ⊗ v3)) true-high
      ⊞ lit 199_980_001_999_800_000_000 ⊠ leq (num 1) (v2 ⊗ v2 ⊗ (v3 ⊗ v3)) whole ⊞ lit 199_980_001_999_799_999_999) tt)
      exact-low)

  -- 10,035 m < 10,000 n would make it too large
  pub n-most : (pos 10_000 *ℤ pos n) ≤ℤ (pos 10_035 *ℤ pos m)
  n-most =
      by_contra (pos 10_000 *ℤ pos n) (pos 10_035 *ℤ pos m)
      (λ g. clash_ℤ
      (certify-< 0 (pos n ∷ W* ∷ pos m ∷ pos K ∷ [])
      (num 100_000_000 ⊗ (v2 ⊗ v2) ⊗ (v3 ⊗ v3)) (num 10_000_000_000_000_000 ⊗ (v0 ⊗ v0 ⊗ v1 ⊖ num 100_000_000 ⊗ (v2 ⊗ v2) ⊗ (v3 ⊗ v3)))
      (lit 100_000_000 ⊠ (fact v1 true-positive ⊠ (less (num 10_035 ⊗ v2) (num 10_000 ⊗ v0) g ⊞ lit 1)
      ⊠ (less (num 10_035 ⊗ v2) (num 10_000 ⊗ v0) g ⊞ lit 1 ⊞ lit 20_070 ⊠ fact v2 (natural m)))
      ⊞ lit 10_070_122_500_000_000 ⊠ sq v2 ⊠ leq (num 99_330_657 ⊗ (v3 ⊗ v3)) v1 true-low
      ⊞ lit 271_883_995_482_400_000_000 ⊠ leq (num 1) (v2 ⊗ v2 ⊗ (v3 ⊗ v3)) whole ⊞ lit 271_883_995_482_399_999_999) tt)
      exact-high)
