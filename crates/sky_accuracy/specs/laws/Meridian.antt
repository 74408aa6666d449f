-- C times a sine or a cosine of the rule against the true one, 3.994 units at most (`meridian`). One lemma for both: p
-- is the cosine and q the sine, with the weights a = 10^8 and b = E, or the other way round; P and Q are their true
-- values over K, and n/m the true C. Why: with X = C·p·m·K, Y = 10^16·n·P and the two sums w° = a·p² + b·q², w* = a·P²
-- + b·Q²,
--     w°·w*·(X - Y)·(X + Y) = 10^40·m²·K²·b·(p·Q - P·q)·(p·Q + P·q) + 3.52·10^32·(..) + 10^-16·(..).
-- An error along the circle, p·Q - P·q, is 1.79·(|P| + |Q|) units, and one across it cancels: 2.2 units; C itself is
-- 1.79 off.
use Rattle.std.specs.Prelude.{◌≡◌, ℕ, ◌+◌, ◌*◌, ◌≤◌, ℤ, neg_ℤ, ◌+ℤ◌, ◌-ℤ◌, ◌*ℤ◌, ◌≤ℤ◌, ◌<ℤ◌}
use Rattle.std.proofs.Math.Path.{ap, subst}
use mathlib.Core.List.{[], ◌∷◌}
use Rattle.std.proofs.Math.Logic.{⊎_elim}
use native.Mathlib.Omega.{arith}
use Rattle.std.proofs.Math.Nat.{le_of_mul-le-mul_left, mul-le-mul_left}
use Rattle.std.proofs.Common.{mul-pos, le_trans, leb→le}
use Rattle.std.proofs.Math.IntN.{pos, nat_abs}
use Rattle.std.specs.Int.Signed.{clash_ℤ}
use Rattle.rounding.specs.laws.Order.{≤-parts, <-parts, ≤ℤ_trans, ≤ℤ_total, by_contra, nat_abs_le, nat_abs_between}
use Rattle.rounding.specs.laws.Order.{le_nat_abs, nat_abs_sum, nat_abs_minus, nat_abs_product, square_nat_abs}
use Rattle.rounding.specs.laws.Ring.{var, num, ◌⊕◌, ◌⊖◌, ◌⊗◌, opp, ring, v0, v1, v2, v3, v4, v5, v6, v7, v8, v9}
use Rattle.rounding.specs.laws.Cert.{fact, leq, less, lit, sq, ◌⊞◌, ◌⊠◌, certify, certify-<}
use Rattle.sky_accuracy.specs.laws.Sizes.{Known, by, plus, less as minus, times, self}
use Rattle.sky_accuracy.specs.laws.Latitude.{Latitude, weighted, up, down, natural, circle-high, true-low, true-high, rule-low, rule-high, true-positive, rule-positive, C-least, n-least, n-most}

cancel : (k x y : ℤ) → pos 1 ≤ℤ k → (k *ℤ x) ≤ℤ (k *ℤ y) → x ≤ℤ y
cancel k x y hk h =
    by_contra x y
    (λ g. clash_ℤ (certify-< 0 (k ∷ x ∷ y ∷ []) (v0 ⊗ v2) (v0 ⊗ v1) ((leq (num 1) v0 hk ⊞ lit 1) ⊠ less v2 v1 g ⊞ leq (num 1) v0 hk) tt) h)

-- y is x - (x - y), and x is (x - y) + y
turn : (x y : ℤ) → y ≡ x -ℤ (x -ℤ y)
turn x y = ring (x ∷ y ∷ []) v1 (v0 ⊖ (v0 ⊖ v1)) tt

back : (x y : ℤ) → x ≡ x -ℤ y +ℤ y
back x y = ring (x ∷ y ∷ []) v0 (v0 ⊖ v1 ⊕ v1) tt

module _ {K m n a b p : ℕ} {C q P Q : ℤ} (x : Latitude K m n a b C (pos p) q P Q) where
  -- ---- the error
  apart : ℤ
  apart = C *ℤ (pos p *ℤ (pos m *ℤ pos K)) -ℤ pos 10_000_000_000_000_000 *ℤ (pos n *ℤ P)

  p-off : ℤ
  p-off = pos K *ℤ pos p -ℤ pos 100_000_000 *ℤ P

  -- C is within 0.0061 of n/m
  ratio-high : (pos 10_000 *ℤ (C *ℤ pos m -ℤ pos 100_000_000 *ℤ pos n)) ≤ℤ pos (6_100_000_000 * m)
  ratio-high =
      certify 0 (C ∷ pos m ∷ pos n ∷ []) (num 10_000 ⊗ (v0 ⊗ v1 ⊖ num 100_000_000 ⊗ v2)) (num 6_100_000_000 ⊗ v1)
      (lit 10_000 ⊠ fact v1 (natural m) ⊠ leq v0 (num 100_600_000) x.C_most ⊞ lit 100_000_000 ⊠ leq (num 9999 ⊗ v1) (num 10_000 ⊗ v2) (n-least x)) tt

  ratio-low : neg_ℤ (pos (6_100_000_000 * m)) ≤ℤ (pos 10_000 *ℤ (C *ℤ pos m -ℤ pos 100_000_000 *ℤ pos n))
  ratio-low =
      certify 0 (C ∷ pos m ∷ pos n ∷ []) (opp (num 6_100_000_000 ⊗ v1)) (num 10_000 ⊗ (v0 ⊗ v1 ⊖ num 100_000_000 ⊗ v2))
      (lit 10_000 ⊠ fact v1 (natural m) ⊠ leq (num 99_990_000) v0 (C-least x) ⊞ lit 100_000_000 ⊠ leq (num 10_000 ⊗ v2) (num 10_035 ⊗ v1) (n-most x)
      ⊞ lit 2_500_000_000 ⊠ fact v1 (natural m)) tt

  -- near the pole, or the equator, p is small and C need not be known well
  small : p ≤ 299 → 1000 * nat_abs apart ≤ 399_400_000_000 * (m * K)
  unfolding apart p-off
  small h =
      let y = C *ℤ pos m -ℤ pos 100_000_000 *ℤ pos n in
      let e : pos 10_000_000 *ℤ apart ≡ pos 1000 *ℤ (pos p *ℤ pos K *ℤ (pos 10_000 *ℤ y)) +ℤ pos 10_000_000_000_000 *ℤ (pos n *ℤ (pos 100 *ℤ p-off))
      = ring (C ∷ pos p ∷ pos m ∷ pos K ∷ pos n ∷ P ∷ [])
      (num 10_000_000 ⊗ (v0 ⊗ (v1 ⊗ (v2 ⊗ v3)) ⊖ num 10_000_000_000_000_000 ⊗ (v4 ⊗ v5)))
      (num 1000 ⊗ (v1 ⊗ v3 ⊗ (num 10_000 ⊗ (v0 ⊗ v2 ⊖ num 100_000_000 ⊗ v4)))
      ⊕ num 10_000_000_000_000 ⊗ (v4 ⊗ (num 100 ⊗ (v3 ⊗ v1 ⊖ num 100_000_000 ⊗ v5)))) tt in
      let first : nat_abs (pos p *ℤ pos K *ℤ (pos 10_000 *ℤ y)) ≤ 299 * K * (6_100_000_000 * m) =
      by (pos p *ℤ pos K) (pos 10_000 *ℤ y) (by (pos p) (pos K) h (self (pos K))) (nat_abs_le (pos 10_000 *ℤ y) ratio-low ratio-high) in
      let second : nat_abs (pos n *ℤ (pos 100 *ℤ p-off)) ≤ n * (179 * K) = by (pos n) (pos 100 *ℤ p-off) (self (pos n)) (times 100 p-off x.known_p.close) in
      let third : 10_000 * (n * (179 * K)) ≤ 10_035 * m * (179 * K) = omega (arith, mul-le-mul_left (179 * K) (≤-parts (n-most x))) in
      omega (
        arith,
        ap nat_abs e,
        nat_abs_product (pos 10_000_000) apart,
        nat_abs_sum (pos 1000 *ℤ (pos p *ℤ pos K *ℤ (pos 10_000 *ℤ y))) (pos 10_000_000_000_000 *ℤ (pos n *ℤ (pos 100 *ℤ p-off))),
        nat_abs_product (pos 1000) (pos p *ℤ pos K *ℤ (pos 10_000 *ℤ y)),
        nat_abs_product (pos 10_000_000_000_000) (pos n *ℤ (pos 100 *ℤ p-off)),
        first,
        second,
        third,
      )

  -- ---- p from 300 on
  module _ (large : 300 ≤ p) where
    A : ℕ
    A = nat_abs P

    B : ℕ
    B = nat_abs Q

    T : ℕ
    T = nat_abs (pos p *ℤ Q -ℤ P *ℤ q)

    S : ℕ
    S = nat_abs (pos p *ℤ Q +ℤ P *ℤ q)

    -- along the circle: 100 T ≤ 179 (A + B)
    along : 100 * T ≤ 179 * (A + B)
    unfolding T A B
    along =
        let y = pos K *ℤ pos p -ℤ pos 100_000_000 *ℤ P in
        let z = pos K *ℤ q -ℤ pos 100_000_000 *ℤ Q in
        let e : pos (100 * K) *ℤ (pos p *ℤ Q -ℤ P *ℤ q) ≡ pos 100 *ℤ y *ℤ Q -ℤ P *ℤ (pos 100 *ℤ z) = ring (pos K ∷ pos p ∷ q ∷ P ∷ Q ∷ [])
        (num 100 ⊗ v0 ⊗ (v1 ⊗ v4 ⊖ v3 ⊗ v2))
        (num 100 ⊗ (v0 ⊗ v1 ⊖ num 100_000_000 ⊗ v3) ⊗ v4 ⊖ v3 ⊗ (num 100 ⊗ (v0 ⊗ v2 ⊖ num 100_000_000 ⊗ v4))) tt in
        le_of_mul-le-mul_left {m = 100 * T} {n = 179 * (A + B)} {k = K}
        (omega (
          arith,
          ap nat_abs e,
          nat_abs_product (pos (100 * K)) (pos p *ℤ Q -ℤ P *ℤ q),
          nat_abs_minus (pos 100 *ℤ y *ℤ Q) (P *ℤ (pos 100 *ℤ z)),
          by (pos 100 *ℤ y) Q (times 100 y x.known_p.close) (self Q),
          by P (pos 100 *ℤ z) (self P) (times 100 z x.known_q.close),
        )) x.some_K

    across : S ≤ p * B + A * nat_abs q
    unfolding S A B
    across = omega (arith, plus (pos p *ℤ Q) (P *ℤ q) (by (pos p) Q (self (pos p)) (self Q)) (by P q (self P) (self q)))

    -- 10^8·P is K p up to 1.79 K
    A-most : 30_000 * (100_000_000 * A) ≤ 30_179 * (K * p)
    unfolding A
    A-most =
        let y = pos K *ℤ pos p -ℤ pos 100_000_000 *ℤ P in
        omega (
          arith,
          ap nat_abs (turn (pos K *ℤ pos p) (pos 100_000_000 *ℤ P)),
          nat_abs_minus (pos K *ℤ pos p) y,
          nat_abs_product (pos 100_000_000) P,
          x.known_p.close,
          mul-le-mul_left K large,
        )

    P-least : (pos 29_821 *ℤ (pos K *ℤ pos p)) ≤ℤ (pos 30_000 *ℤ (pos 100_000_000 *ℤ P))
    P-least =
        certify 0 (pos K ∷ pos p ∷ P ∷ []) (num 29_821 ⊗ (v0 ⊗ v1)) (num 30_000 ⊗ (num 100_000_000 ⊗ v2))
        (lit 300 ⊠ leq (num 100 ⊗ (v0 ⊗ v1 ⊖ num 100_000_000 ⊗ v2)) (num 179 ⊗ v0)
        (le_nat_abs _ (times 100 (pos K *ℤ pos p -ℤ pos 100_000_000 *ℤ P) x.known_p.close))
        ⊞ lit 179 ⊠ fact v0 (natural K) ⊠ leq (num 300) v1 (up large)) tt

    q-most : 100 * (K * nat_abs q) ≤ 10_000_000_000 * B + 179 * K
    unfolding B
    q-most =
        let z = pos K *ℤ q -ℤ pos 100_000_000 *ℤ Q in
        omega (
          arith,
          ap nat_abs (back (pos K *ℤ q) (pos 100_000_000 *ℤ Q)),
          nat_abs_sum z (pos 100_000_000 *ℤ Q),
          nat_abs_product (pos K) q,
          nat_abs_product (pos 100_000_000) Q,
          x.known_q.close,
        )

    size-most : (s X : ℤ) → Known K s X → 100 * nat_abs X ≤ 101 * K
    size-most s X h =
        let y = pos K *ℤ s -ℤ pos 100_000_000 *ℤ X in
        omega (
          arith,
          ap nat_abs (turn (pos K *ℤ s) (pos 100_000_000 *ℤ X)),
          nat_abs_minus (pos K *ℤ s) y,
          nat_abs_product (pos 100_000_000) X,
          by (pos K) s (self (pos K)) h.small,
          h.close,
        )

    -- (A + B) B ≤ (1 + √2)/2 (A² + B²)
    joint : (pos 100_000 *ℤ ((pos A +ℤ pos B) *ℤ pos B)) ≤ℤ (pos 120_712 *ℤ (pos K *ℤ pos K))
    unfolding A B
    joint =
        let v = pos A ∷ pos B ∷ pos K ∷ [] in
        let on : (pos 10_000_000_000_000_000 *ℤ (pos A *ℤ pos A +ℤ pos B *ℤ pos B -ℤ pos K *ℤ pos K)) ≤ℤ (pos K *ℤ pos K)
        = subst (λ (y : ℤ). (pos 10_000_000_000_000_000 *ℤ (y +ℤ pos (B * B) -ℤ pos (K * K))) ≤ℤ pos (K * K)) (square_nat_abs P)
        (subst (λ (z : ℤ). (pos 10_000_000_000_000_000 *ℤ (P *ℤ P +ℤ z -ℤ pos (K * K))) ≤ℤ pos (K * K)) (square_nat_abs Q) (circle-high x)) in
        certify 4_828_439_999_999_999_999_999 v (num 100_000 ⊗ ((v0 ⊕ v1) ⊗ v1)) (num 120_712 ⊗ (v2 ⊗ v2))
        (lit 10_000_000_000_000_000 ⊠ (sq (num 241_422 ⊗ v0 ⊖ num 100_000 ⊗ v1) ⊞ lit 182_084 ⊠ sq v1)
        ⊞ lit 58_284_582_084 ⊠ leq (num 10_000_000_000_000_000 ⊗ (v0 ⊗ v0 ⊕ v1 ⊗ v1 ⊖ v2 ⊗ v2)) (v2 ⊗ v2) on
        ⊞ lit 4_828_439_999_941_715_417_916 ⊠ sq v2) tt

    along-across : (pos 100_000 *ℤ (pos S *ℤ pos T)) ≤ℤ (pos 433_440 *ℤ (pos p *ℤ (pos K *ℤ pos K)))
    unfolding A B
    along-across =
        let j = natural in
        certify 299_999_999_999_999 (pos p ∷ pos K ∷ pos A ∷ pos B ∷ pos (nat_abs q) ∷ pos S ∷ pos T ∷ [])
        (num 100_000 ⊗ (v5 ⊗ v6)) (num 433_440 ⊗ (v0 ⊗ (v1 ⊗ v1)))
        (lit 30_000_000_000_000_000_000 ⊠ fact v6 (j T) ⊠ leq v5 (v0 ⊗ v3 ⊕ v2 ⊗ v4) (up across)
        ⊞ lit 10_000_000 ⊠ fact v6 (j T) ⊠ fact v4 (j (nat_abs q)) ⊠ leq (num 30_000 ⊗ (num 100_000_000 ⊗ v2)) (num 30_179 ⊗ (v1 ⊗ v0)) (up A-most)
        ⊞ lit 3_017_900_000 ⊠ fact v6 (j T) ⊠ fact v0 (j p) ⊠ leq (num 100 ⊗ (v1 ⊗ v4)) (num 10_000_000_000 ⊗ v3 ⊕ num 179 ⊗ v1) (up q-most)
        ⊞ lit 601_790_000_000_000_000 ⊠ fact v0 (j p) ⊠ fact v3 (j B) ⊠ leq (num 100 ⊗ v6) (num 179 ⊗ (v2 ⊕ v3)) (up along)
        ⊞ lit 1_077_204_100_000_000 ⊠ fact v0 (j p) ⊠ leq (num 100_000 ⊗ ((v2 ⊕ v3) ⊗ v3)) (num 120_712 ⊗ (v1 ⊗ v1)) joint
        ⊞ lit 5_402_041_000 ⊠ fact v0 (j p) ⊠ fact v1 (j K) ⊠ leq (num 100 ⊗ v6) (num 179 ⊗ (v2 ⊕ v3)) (up along)
        ⊞ lit 9_669_653_390 ⊠ fact v0 (j p) ⊠ fact v1 (j K) ⊠ (leq (num 100 ⊗ v2) (num 101 ⊗ v1) (up (size-most (pos p) P x.known_p)) ⊞ leq (num 100 ⊗ v3)
        (num 101 ⊗ v1) (up (size-most q Q x.known_q)))
        ⊞ lit 536_727_530_015_220 ⊠ fact v0 (j p) ⊠ sq v1) tt

    -- X + Y, and w°·w*, are not small
    sum : ℤ
    sum = C *ℤ (pos p *ℤ (pos m *ℤ pos K)) +ℤ pos 10_000_000_000_000_000 *ℤ (pos n *ℤ P)

    sum-least : (pos 1_993_800_000_000 *ℤ (pos m *ℤ pos K *ℤ pos p)) ≤ℤ (pos 10_000 *ℤ sum)
    unfolding sum
    sum-least =
        certify 29_999 (C ∷ pos p ∷ pos m ∷ pos K ∷ pos n ∷ P ∷ [])
        (num 1_993_800_000_000 ⊗ (v2 ⊗ v3 ⊗ v1)) (num 10_000 ⊗ (v0 ⊗ (v1 ⊗ (v2 ⊗ v3)) ⊕ num 10_000_000_000_000_000 ⊗ (v4 ⊗ v5)))
        (lit 300_000_000 ⊠ fact v1 (natural p) ⊠ fact v2 (natural m) ⊠ fact v3 (natural K) ⊠ leq (num 99_990_000) v0 (C-least x)
        ⊞ lit 1_000_000_000_000 ⊠ fact v4 (natural n) ⊠ leq (num 29_821 ⊗ (v3 ⊗ v1)) (num 30_000 ⊗ (num 100_000_000 ⊗ v5)) P-least
        ⊞ lit 2_982_100_000_000 ⊠ fact v3 (natural K) ⊠ fact v1 (natural p) ⊠ leq (num 9999 ⊗ v2) (num 10_000 ⊗ v4) (n-least x)
        ⊞ lit 1_017_900_000_000 ⊠ fact v1 (natural p) ⊠ fact v2 (natural m) ⊠ fact v3 (natural K)) tt

    both : ℤ
    both = weighted a b (pos p) q *ℤ weighted a b P Q

    both-least : (pos 98_665_000_000_000_000_000_000_000_000_000 *ℤ (pos K *ℤ pos K)) ≤ℤ both
    unfolding both
    both-least =
        certify 0 (weighted a b (pos p) q ∷ weighted a b P Q ∷ pos K ∷ []) (num 98_665_000_000_000_000_000_000_000_000_000 ⊗ (v2 ⊗ v2)) (v0 ⊗ v1)
        (leq (num 993_306_500_000_000_000_000_000) v0 (rule-low x) ⊠ fact v1 (true-positive x)
        ⊞ lit 993_306_500_000_000_000_000_000 ⊠ leq (num 99_330_657 ⊗ (v2 ⊗ v2)) v1 (true-low x) ⊞ lit 787_247_370_500_000_000_000_000_000 ⊠ sq v2) tt

    -- ---- the equation
    C-off : ℤ
    C-off = C *ℤ C *ℤ weighted a b (pos p) q -ℤ pos 10_000_000_000_000_000_000_000_000_000_000_000_000_000

    n-off : ℤ
    n-off = pos (n * n) *ℤ weighted a b P Q -ℤ pos (100_000_000 * (m * m) * (K * K))

    mK : ℤ
    mK = pos m *ℤ pos m *ℤ (pos K *ℤ pos K)

    parts : both *ℤ apart *ℤ sum
        ≡ pos 10_000_000_000_000_000_000_000_000_000_000_000_000_000 *ℤ mK *ℤ pos b *ℤ ((pos p *ℤ Q +ℤ P *ℤ q) *ℤ (pos p *ℤ Q -ℤ P *ℤ q))
        +ℤ C-off *ℤ (pos p *ℤ pos p *ℤ mK *ℤ weighted a b P Q)
        -ℤ n-off *ℤ (pos 100_000_000_000_000_000_000_000_000_000_000 *ℤ (P *ℤ P) *ℤ weighted a b (pos p) q)
    unfolding both apart sum C-off n-off mK weighted
    parts =
        let r = v7 ⊗ (v1 ⊗ v1) ⊕ v8 ⊗ (v6 ⊗ v6) in
        let s = v7 ⊗ (v5 ⊗ v5) ⊕ v8 ⊗ (v9 ⊗ v9) in
        let X = v0 ⊗ (v1 ⊗ (v2 ⊗ v3)) in
        let Y = num 10_000_000_000_000_000 ⊗ (v4 ⊗ v5) in
        let k = v2 ⊗ v2 ⊗ (v3 ⊗ v3) in
        ring (C ∷ pos p ∷ pos m ∷ pos K ∷ pos n ∷ P ∷ q ∷ pos a ∷ pos b ∷ Q ∷ [])
        (r ⊗ s ⊗ (X ⊖ Y) ⊗ (X ⊕ Y))
        (num 10_000_000_000_000_000_000_000_000_000_000_000_000_000 ⊗ k ⊗ v8 ⊗ ((v1 ⊗ v9 ⊕ v5 ⊗ v6) ⊗ (v1 ⊗ v9 ⊖ v5 ⊗ v6))
        ⊕ (v0 ⊗ v0 ⊗ r ⊖ num 10_000_000_000_000_000_000_000_000_000_000_000_000_000) ⊗ (v1 ⊗ v1 ⊗ k ⊗ s)
        ⊖ (v4 ⊗ v4 ⊗ s ⊖ num 100_000_000 ⊗ (v2 ⊗ v2) ⊗ (v3 ⊗ v3)) ⊗ (num 100_000_000_000_000_000_000_000_000_000_000 ⊗ (v5 ⊗ v5) ⊗ r)) tt

    -- ---- what it bounds
    all : nat_abs both * nat_abs apart * nat_abs sum
        ≤ 10_000_000_000_000_000_000_000_000_000_000_000_000_000 * (m * m * (K * K)) * b * (S * T)
        + 352_000_000_000_000_000_000_000_000_000_000 * (p * p * (m * m * (K * K)) * nat_abs (weighted a b P Q))
        + nat_abs n-off * (100_000_000_000_000_000_000_000_000_000_000 * (A * A) * nat_abs (weighted a b (pos p) q))
    unfolding S T A C-off mK
    all =
        let f = pos p *ℤ Q +ℤ P *ℤ q in
        let g = pos p *ℤ Q -ℤ P *ℤ q in
        let w = weighted a b (pos p) q in
        let v = weighted a b P Q in
        let k = m * m * (K * K) in
        rw (← nat_abs_product both apart, ← nat_abs_product (both *ℤ apart) sum, parts)
        (minus (pos 10_000_000_000_000_000_000_000_000_000_000_000_000_000 *ℤ mK *ℤ pos b *ℤ (f *ℤ g) +ℤ C-off *ℤ (pos p *ℤ pos p *ℤ mK *ℤ v))
        (n-off *ℤ (pos 100_000_000_000_000_000_000_000_000_000_000 *ℤ (P *ℤ P) *ℤ w))
        (plus (pos 10_000_000_000_000_000_000_000_000_000_000_000_000_000 *ℤ mK *ℤ pos b *ℤ (f *ℤ g)) (C-off *ℤ (pos p *ℤ pos p *ℤ mK *ℤ v))
        (by (pos 10_000_000_000_000_000_000_000_000_000_000_000_000_000 *ℤ mK *ℤ pos b) (f *ℤ g)
        (self (pos (10_000_000_000_000_000_000_000_000_000_000_000_000_000 * k * b))) (by f g (self f) (self g)))
        (by C-off (pos p *ℤ pos p *ℤ mK *ℤ v) x.rule (by (pos p *ℤ pos p *ℤ mK) v (self (pos (p * p * k))) (self v))))
        (by n-off (pos 100_000_000_000_000_000_000_000_000_000_000 *ℤ (P *ℤ P) *ℤ w) (self n-off)
        (by (pos 100_000_000_000_000_000_000_000_000_000_000 *ℤ (P *ℤ P)) w (by (pos 100_000_000_000_000_000_000_000_000_000_000) (P *ℤ P)
        (self (pos 100_000_000_000_000_000_000_000_000_000_000)) (by P P (self P) (self P))) (self w))))

    big : 1000 * nat_abs apart ≤ 399_400_000_000 * (m * K)
    unfolding n-off
    big =
        let kk = v4 ⊗ v4 ⊗ (v3 ⊗ v3) in
        let κ = sq v4 ⊠ sq v3 in
        let r = num 10_000_000_000_000_000_000_000_000_000_000_000_000_000 ⊗ kk ⊗ var 12 ⊗ (v6 ⊗ v7)
        ⊕ num 352_000_000_000_000_000_000_000_000_000_000 ⊗ (v5 ⊗ v5 ⊗ kk ⊗ v8) ⊕ var 11 ⊗ (num 100_000_000_000_000_000_000_000_000_000_000 ⊗ (var 10 ⊗ var 10) ⊗ v9) in
        let g = num 196_718_277_000_000_000_000_000_000_000_000_000_000_000_000 ⊗ (v3 ⊗ v3 ⊗ (v4 ⊗ v3 ⊗ v5)) in
        let w-most : nat_abs (weighted a b P Q) ≤ 100_000_001 * (K * K) = nat_abs_between (weighted a b P Q) 0 (true-positive x) (true-high x) in
        let r-most : nat_abs (weighted a b (pos p) q) ≤ 1_000_000_080_000_000_000_000_000 = nat_abs_between (weighted a b (pos p) q) 0 (rule-positive x) (rule-high x) in
        let room = leq (num 30_000 ⊗ (num 100_000_000 ⊗ var 10)) (num 30_179 ⊗ (v3 ⊗ v5)) (up A-most) in
        let P-room = leq v5 (num 100_000_000) (up x.known_p.small) in
        down (cancel (pos 196_718_277_000_000_000_000_000_000_000_000_000_000_000_000 *ℤ (pos K *ℤ pos K *ℤ (pos m *ℤ pos K *ℤ pos p))) (pos 1000 *ℤ pos (nat_abs apart))
        (pos 399_400_000_000 *ℤ (pos m *ℤ pos K))
        (up (mul-pos (leb→le 1 196_718_277_000_000_000_000_000_000_000_000_000_000_000_000 tt) (mul-pos (mul-pos x.some_K x.some_K) (mul-pos (mul-pos x.some
        x.some_K) (le_trans (leb→le 1 300 tt) large)))))
        (certify 8
        (pos (nat_abs apart) ∷ pos (nat_abs both) ∷ pos (nat_abs sum) ∷ pos K ∷ pos m ∷ pos p ∷ pos S ∷ pos T ∷ pos (nat_abs (weighted a b P Q))
        ∷ pos (nat_abs (weighted a b (pos p) q)) ∷ pos A ∷ pos (nat_abs n-off) ∷ pos b ∷ [])
        (g ⊗ (num 1000 ⊗ v0)) (g ⊗ (num 399_400_000_000 ⊗ (v4 ⊗ v3)))
        (lit 9000 ⊠ fact v0 (natural (nat_abs apart)) ⊠ (lit 10_000
        ⊠ leq (num 98_665_000_000_000_000_000_000_000_000_000 ⊗ (v3 ⊗ v3)) v1 (≤ℤ_trans both-least (le_nat_abs both (self both))) ⊠ fact v2 (natural (nat_abs sum))
        ⊞ lit 98_665_000_000_000_000_000_000_000_000_000 ⊠ sq v3 ⊠ leq (num 1_993_800_000_000 ⊗ (v4 ⊗ v3 ⊗ v5)) (num 10_000 ⊗ v2) sum-size)
        ⊞ lit 90_000_000 ⊠ leq (v1 ⊗ v0 ⊗ v2) r (up all)
        ⊞ lit 9_000_000_000_000_000_000_000_000_000_000_000_000_000_000 ⊠ κ ⊠ fact (var 12) (natural b) ⊠ leq (num 100_000 ⊗ (v6 ⊗ v7))
        (num 433_440 ⊗ (v5 ⊗ (v3 ⊗ v3))) along-across
        ⊞ lit 3_900_960_000_000_000_000_000_000_000_000_000_000_000_000_000_000 ⊠ κ ⊠ sq v3 ⊠ fact v5 (natural p) ⊠ leq (var 12) (num 100_000_000) (up x.weight_b.high)
        ⊞ lit 31_680_000_000_000_000_000_000_000_000_000_000_000_000 ⊠ κ ⊠ sq v5 ⊠ leq v8 (num 100_000_001 ⊗ (v3 ⊗ v3)) (up w-most)
        ⊞ lit 3_168_000_031_680_000_000_000_000_000_000_000_000_000_000_000_000 ⊠ κ ⊠ sq v3 ⊠ fact v5 (natural p) ⊠ P-room
        ⊞ lit 9_000_000_000_000_000_000_000_000_000_000_000_000_000 ⊠ fact (var 11) (natural (nat_abs n-off)) ⊠ sq (var 10)
        ⊠ leq v9 (num 1_000_000_080_000_000_000_000_000) (up r-most)
        ⊞ lit 900_000_072_000_000_000_000_000_000_000_000_000_000_000_000_000 ⊠ sq (var 10) ⊠ leq (num 10_000_000_000_000_000 ⊗ var 11)
        (num 100_000_000 ⊗ (v4 ⊗ v4) ⊗ (v3 ⊗ v3)) (up x.exact)
        ⊞ lit 10_000_000_800_000_000_000_000_000_000_000 ⊠ κ ⊠ room ⊠ (room ⊞ lit 6_000_000_000_000 ⊠ fact (var 10) (natural A))
        ⊞ lit 9_107_721_138_617_632_800_000_000_000_000_000_000_000 ⊠ κ ⊠ sq v3 ⊠ fact v5 (natural p) ⊠ P-room
        ⊞ lit 227_514_425_427_886_138_236_720_000_000_000_000_000_000_000_000_000_000 ⊠ κ ⊠ sq v3 ⊠ fact v5 (natural p)) tt))
      where
        sum-size : (pos 1_993_800_000_000 *ℤ (pos m *ℤ pos K *ℤ pos p)) ≤ℤ (pos 10_000 *ℤ pos (nat_abs sum))
        sum-size = ≤ℤ_trans sum-least (certify 0 (sum ∷ pos (nat_abs sum) ∷ []) (num 10_000 ⊗ v0) (num 10_000 ⊗ v1) (lit 10_000 ⊠ leq v0 v1 (le_nat_abs sum (self sum))) tt)

  pub meridian : 1000 * nat_abs (C *ℤ (pos p *ℤ (pos m *ℤ pos K)) -ℤ pos 10_000_000_000_000_000 *ℤ (pos n *ℤ P)) ≤ 399_400_000_000 * (m * K)
  unfolding apart
  meridian = ⊎_elim (λ (l : pos 300 ≤ℤ pos p). big (omega (arith, ≤-parts l))) (λ (l : pos p <ℤ pos 300). small (omega (arith, <-parts l))) (≤ℤ_total (pos 300) (pos p))
