-- Values at three seconds: they are exact up to their roundings, and an exact polynomial leaves its chord by little.
--   quadratic-chord    3600³ |deviation| ≤ 4·3600³ (i + j) + 3600 |c2| i j (i + j)
--   cubic-chord        of the exact cubic: |deviation| ≤ 684,000,000 i j (i + j), over 3600³, where |c2| ≤ 100,000 and |c3| ≤ 10,000
--   quadratic_change   3600³ |Q(a + n) - Q(a)| ≤ (4·3600³ + 3600² |c1| + 3600·21,600 |c2|) n
use Rattle.std.specs.Prelude.{◌≡◌, [], ◌∷◌, ℕ, zero, suc, ◌+◌, ◌*◌, ◌≤◌, ℤ, neg_ℤ, nat_abs, ◌+ℤ◌, ◌-ℤ◌, ◌*ℤ◌}
use Rattle.std.proofs.Common.{ap, arith, mul-le-mul_left, mul-le-mul_right}
use Rattle.std.proofs.Math.IntN.{pos}
use Rattle.rounding.specs.laws.Order.{nat_abs_sum, nat_abs_minus, nat_abs_product, nat_abs_product_le, nat_abs_opposite}
use Rattle.rounding.specs.laws.Ring.{num, ◌⊕◌, ◌⊖◌, ◌⊗◌, opp, ring, v0, v1, v2, v3, v4, v5, v6}
use Rattle.elements.specs.declared.Cubic.{Cubic}
use Rattle.elements.specs.declared.Quadratic.{Quadratic}
use Rattle.elements.specs.Polynomial.{quadratic_at}
use Rattle.shadow_geometry.specs.Exact.{exact-quadratic, exact-cubic}
use Rattle.shadow_geometry.specs.laws.PolynomialError.{quadratic-error}
use Rattle.chord_bounds.specs.laws.Deviation.{deviation, deviation-near}

-- b is i seconds after a, and c is j seconds after b, all of them in the range
pub record Times (i j : ℕ) (a b c : ℤ) : Type 0 where
  pub a_in : nat_abs a ≤ 10800
  pub b_in : nat_abs b ≤ 10800
  pub c_in : nat_abs c ≤ 10800
  pub b-is : b ≡ a +ℤ pos i
  pub c-is : c ≡ a +ℤ pos i +ℤ pos j

module _ {i j : ℕ} {a b c : ℤ} (t : Times i j a b c) where
  abbrev P : ℤ
  P = pos i *ℤ pos j *ℤ (pos i +ℤ pos j)

  exact-quadratic-deviation : (q : Quadratic) → deviation i j (exact-quadratic q a) (exact-quadratic q b) (exact-quadratic q c) ≡ neg_ℤ (pos 3600 *ℤ (q.c2 *ℤ P))
  unfolding exact-quadratic
  exact-quadratic-deviation q =
      let x = v0 ⊕ v1 in
      let z = v0 ⊕ v1 ⊕ v2 in
      rw (t.c-is, t.b-is) (ring (a ∷ pos i ∷ pos j ∷ q.c0 ∷ q.c1 ∷ q.c2 ∷ [])
      ((v1 ⊕ v2) ⊗ (v3 ⊗ num 46656000000 ⊕ v4 ⊗ x ⊗ num 12960000 ⊕ v5 ⊗ (x ⊗ x) ⊗ num 3600)
      ⊖ (v2 ⊗ (v3 ⊗ num 46656000000 ⊕ v4 ⊗ v0 ⊗ num 12960000 ⊕ v5 ⊗ (v0 ⊗ v0) ⊗ num 3600)
      ⊕ v1 ⊗ (v3 ⊗ num 46656000000 ⊕ v4 ⊗ z ⊗ num 12960000 ⊕ v5 ⊗ (z ⊗ z) ⊗ num 3600)))
      (opp (num 3600 ⊗ (v5 ⊗ (v1 ⊗ v2 ⊗ (v1 ⊕ v2))))) tt)

  exact-cubic-deviation : (q : Cubic)
      → deviation i j (exact-cubic q a) (exact-cubic q b) (exact-cubic q c) ≡ neg_ℤ ((pos 3600 *ℤ q.c2 +ℤ q.c3 *ℤ (a +ℤ b +ℤ c)) *ℤ P)
  unfolding exact-cubic
  exact-cubic-deviation q =
      let x = v0 ⊕ v1 in
      let z = v0 ⊕ v1 ⊕ v2 in
      rw (t.c-is, t.b-is) (ring (a ∷ pos i ∷ pos j ∷ q.c0 ∷ q.c1 ∷ q.c2 ∷ q.c3 ∷ [])
      ((v1 ⊕ v2) ⊗ (v3 ⊗ num 46656000000 ⊕ v4 ⊗ x ⊗ num 12960000 ⊕ v5 ⊗ (x ⊗ x) ⊗ num 3600 ⊕ v6 ⊗ (x ⊗ x ⊗ x))
      ⊖ (v2 ⊗ (v3 ⊗ num 46656000000 ⊕ v4 ⊗ v0 ⊗ num 12960000 ⊕ v5 ⊗ (v0 ⊗ v0) ⊗ num 3600 ⊕ v6 ⊗ (v0 ⊗ v0 ⊗ v0))
      ⊕ v1 ⊗ (v3 ⊗ num 46656000000 ⊕ v4 ⊗ z ⊗ num 12960000 ⊕ v5 ⊗ (z ⊗ z) ⊗ num 3600 ⊕ v6 ⊗ (z ⊗ z ⊗ z))))
      (opp ((num 3600 ⊗ v5 ⊕ v6 ⊗ (v0 ⊕ x ⊕ z)) ⊗ (v1 ⊗ v2 ⊗ (v1 ⊕ v2)))) tt)

  pub exact-quadratic-chord : (q : Quadratic) (C : ℕ) → nat_abs q.c2 ≤ C
      → nat_abs (deviation i j (exact-quadratic q a) (exact-quadratic q b) (exact-quadratic q c)) ≤ 3600 * C * (i * j * (i + j))
  exact-quadratic-chord q C h =
      omega (
        arith,
        ap nat_abs (exact-quadratic-deviation q),
        nat_abs_opposite (pos 3600 *ℤ (q.c2 *ℤ P)),
        nat_abs_product (pos 3600) (q.c2 *ℤ P),
        nat_abs_product q.c2 P,
        mul-le-mul_right (i * j * (i + j)) h,
      )

  pub quadratic-chord : (q : Quadratic) (C : ℕ) → nat_abs q.c2 ≤ C
      → 46656000000 * nat_abs (deviation i j (quadratic_at q a) (quadratic_at q b) (quadratic_at q c)) ≤ 186624000000 * (i + j) + 3600 * C * (i * j * (i + j))
  quadratic-chord q C h =
      omega (
        arith,
        deviation-near i j 2 46656000000 186624000000 (quadratic_at q a) (quadratic_at q b) (quadratic_at q c) (exact-quadratic q a) (exact-quadratic q b) (exact-quadratic q c)
            (quadratic-error a t.a_in q) (quadratic-error b t.b_in q) (quadratic-error c t.c_in q),
        exact-quadratic-chord q C h,
      )

  pub cubic-chord : (q : Cubic) → nat_abs q.c2 ≤ 100000 → nat_abs q.c3 ≤ 10000
      → nat_abs (deviation i j (exact-cubic q a) (exact-cubic q b) (exact-cubic q c)) ≤ 684000000 * (i * j * (i + j))
  cubic-chord q h2 h3 =
      let k = pos 3600 *ℤ q.c2 +ℤ q.c3 *ℤ (a +ℤ b +ℤ c) in
      let far : nat_abs (a +ℤ b +ℤ c) ≤ 32400 = omega (arith, nat_abs_sum (a +ℤ b) c, nat_abs_sum a b, t.a_in, t.b_in, t.c_in) in
      let most : nat_abs k ≤ 684000000 =
      omega (
        arith,
        nat_abs_sum (pos 3600 *ℤ q.c2) (q.c3 *ℤ (a +ℤ b +ℤ c)),
        nat_abs_product (pos 3600) q.c2,
        nat_abs_product_le q.c3 (a +ℤ b +ℤ c) 10000 32400 h3 far,
        h2,
      ) in
      omega (arith, ap nat_abs (exact-cubic-deviation q), nat_abs_opposite (k *ℤ P), nat_abs_product k P, mul-le-mul_right (i * j * (i + j)) most)

-- from a second to one that is n later
module _ (n : ℕ) (a b : ℤ) (ha : nat_abs a ≤ 10800) (hb : nat_abs b ≤ 10800) (later : b ≡ a +ℤ pos n) (q : Quadratic) where
  exact-change : exact-quadratic q b -ℤ exact-quadratic q a ≡ pos n *ℤ (pos 12960000 *ℤ q.c1 +ℤ pos 3600 *ℤ (q.c2 *ℤ (a +ℤ b)))
  unfolding exact-quadratic
  exact-change =
      let x = v0 ⊕ v1 in
      rw later (ring (a ∷ pos n ∷ q.c0 ∷ q.c1 ∷ q.c2 ∷ [])
      (v2 ⊗ num 46656000000 ⊕ v3 ⊗ x ⊗ num 12960000 ⊕ v4 ⊗ (x ⊗ x) ⊗ num 3600
      ⊖ (v2 ⊗ num 46656000000 ⊕ v3 ⊗ v0 ⊗ num 12960000 ⊕ v4 ⊗ (v0 ⊗ v0) ⊗ num 3600))
      (v1 ⊗ (num 12960000 ⊗ v3 ⊕ num 3600 ⊗ (v4 ⊗ (v0 ⊕ x)))) tt)

  rounded-change : (B C : ℕ) → nat_abs q.c1 ≤ B → nat_abs q.c2 ≤ C
      → 46656000000 * nat_abs (quadratic_at q b -ℤ quadratic_at q a) ≤ 186624000000 + (12960000 * B + 77760000 * C) * n
  rounded-change B C h1 h2 =
      let A' = quadratic_at q a in
      let B' = quadratic_at q b in
      let X = exact-quadratic q a in
      let Y = exact-quadratic q b in
      let x = pos 46656000000 *ℤ A' -ℤ X in
      let y = pos 46656000000 *ℤ B' -ℤ Y in
      let k = pos 12960000 *ℤ q.c1 +ℤ pos 3600 *ℤ (q.c2 *ℤ (a +ℤ b)) in
      let far : nat_abs (a +ℤ b) ≤ 21600 = omega (arith, nat_abs_sum a b, ha, hb) in
      let most : nat_abs k ≤ 12960000 * B + 77760000 * C =
      omega (
        arith,
        nat_abs_sum (pos 12960000 *ℤ q.c1) (pos 3600 *ℤ (q.c2 *ℤ (a +ℤ b))),
        nat_abs_product (pos 12960000) q.c1,
        nat_abs_product (pos 3600) (q.c2 *ℤ (a +ℤ b)),
        nat_abs_product_le q.c2 (a +ℤ b) C 21600 h2 far,
        h1,
      ) in
      omega (
        arith,
        ap nat_abs (ring (A' ∷ B' ∷ X ∷ Y ∷ []) (num 46656000000 ⊗ (v1 ⊖ v0)) (num 46656000000 ⊗ v1 ⊖ v3 ⊖ (num 46656000000 ⊗ v0 ⊖ v2) ⊕ (v3 ⊖ v2)) tt),
        nat_abs_product (pos 46656000000) (B' -ℤ A'),
        nat_abs_sum (y -ℤ x) (Y -ℤ X),
        nat_abs_minus y x,
        quadratic-error a ha q,
        quadratic-error b hb q,
        ap nat_abs exact-change,
        nat_abs_product (pos n) k,
        mul-le-mul_left n most,
      )

nothing : (q : Quadratic) (a b : ℤ) → b ≡ a +ℤ pos 0 → nat_abs (quadratic_at q b -ℤ quadratic_at q a) ≡ 0
nothing q a b e =
    let s : b ≡ a = rw e (ring (a ∷ []) (v0 ⊕ num 0) v0 tt) in
    rw s (ap nat_abs (ring (quadratic_at q a ∷ []) (v0 ⊖ v0) (num 0) tt))

pub quadratic_change : (n : ℕ) (a b : ℤ) → nat_abs a ≤ 10800 → nat_abs b ≤ 10800 → b ≡ a +ℤ pos n → (q : Quadratic) (B C : ℕ) → nat_abs q.c1 ≤ B → nat_abs q.c2 ≤ C
    → 46656000000 * nat_abs (quadratic_at q b -ℤ quadratic_at q a) ≤ (186624000000 + (12960000 * B + 77760000 * C)) * n
quadratic_change zero a b ha hb e q B C h1 h2 = omega (arith, nothing q a b e)
quadratic_change (suc n) a b ha hb e q B C h1 h2 = omega (arith, rounded-change (suc n) a b ha hb e q B C h1 h2)
