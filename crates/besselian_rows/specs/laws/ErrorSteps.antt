-- The steps of the errors, over any numbers: each is an equation, and the sizes of its terms.
use Rattle.std.proofs.Common.{ap, arith, mul-le-mul, mul-le-mul_left, le_trans}
use Rattle.std.specs.Prelude.{[], ◌∷◌, ℕ, ◌+◌, ◌*◌, ◌≤◌, ℤ, pos, neg_ℤ, nat_abs, ◌+ℤ◌, ◌-ℤ◌, ◌*ℤ◌}
use Rattle.rounding.specs.Parts.{sum, opposite}
use Rattle.rounding.specs.laws.Order.{nat_abs_by, nat_abs_sum, nat_abs_minus, nat_abs_product, nat_abs_product_le}
use Rattle.rounding.specs.laws.Ring.{num, ◌⊕◌, ◌⊖◌, ◌⊗◌, opp, ring, v0, v1, v2, v3, v4, v5, v6, v7, v8}

-- G is 1000 g within 500: G² is 10^6 g² within 10^6 |g| + 250,000
pub square-error : (G g : ℤ) → nat_abs (pos 1000 *ℤ g -ℤ G) ≤ 500 → nat_abs (G *ℤ G -ℤ pos 1000000 *ℤ (g *ℤ g)) ≤ 1000000 * nat_abs g + 250000
square-error G g h =
    let a = pos 1000 *ℤ g -ℤ G in
    let b = a -ℤ pos 2000 *ℤ g in
    let s : nat_abs b ≤ 500 + 2000 * nat_abs g = omega (arith, nat_abs_minus a (pos 2000 *ℤ g), nat_abs_product (pos 2000) g) in
    omega (
      arith,
      ap nat_abs (ring (G ∷ g ∷ []) (v0 ⊗ v0 ⊖ num 1000000 ⊗ (v1 ⊗ v1)) ((num 1000 ⊗ v1 ⊖ v0) ⊗ ((num 1000 ⊗ v1 ⊖ v0) ⊖ num 2000 ⊗ v1)) tt),
      nat_abs_product_le a b 500 (500 + 2000 * nat_abs g) h s,
    )

-- n is a s + b c over 10^8, s and c are u and v over R: all to the nearest
pub turn : (R : ℕ) (n a b s c u v : ℤ) → nat_abs a ≤ 6500000000 → nat_abs b ≤ 13000000000
    → 2 * nat_abs (pos 100000000 *ℤ n -ℤ (a *ℤ s +ℤ b *ℤ c)) ≤ 100000000
    → 2 * nat_abs (pos R *ℤ s -ℤ u *ℤ pos 100000000) ≤ R → 2 * nat_abs (pos R *ℤ c -ℤ v *ℤ pos 100000000) ≤ R
    → nat_abs (pos R *ℤ n -ℤ (a *ℤ u +ℤ b *ℤ v)) ≤ 98 * R
turn R n a b s c u v ha hb hn hs hc =
    let x = pos 100000000 *ℤ n -ℤ (a *ℤ s +ℤ b *ℤ c) in
    let y = pos R *ℤ s -ℤ u *ℤ pos 100000000 in
    let z = pos R *ℤ c -ℤ v *ℤ pos 100000000 in
    let w = pos R *ℤ n -ℤ (a *ℤ u +ℤ b *ℤ v) in
    let e = ring (pos R ∷ n ∷ a ∷ b ∷ s ∷ c ∷ u ∷ v ∷ []) (num 100000000 ⊗ (v0 ⊗ v1 ⊖ (v2 ⊗ v6 ⊕ v3 ⊗ v7)))
    (v0 ⊗ (num 100000000 ⊗ v1 ⊖ (v2 ⊗ v4 ⊕ v3 ⊗ v5)) ⊕ v2 ⊗ (v0 ⊗ v4 ⊖ v6 ⊗ num 100000000) ⊕ v3 ⊗ (v0 ⊗ v5 ⊖ v7 ⊗ num 100000000)) tt in
    omega (
      arith,
      ap nat_abs e,
      nat_abs_product (pos 100000000) w,
      nat_abs_sum (pos R *ℤ x +ℤ a *ℤ y) (b *ℤ z),
      nat_abs_sum (pos R *ℤ x) (a *ℤ y),
      nat_abs_product (pos R) x,
      nat_abs_product a y,
      nat_abs_product b z,
      mul-le-mul_left R hn,
      mul-le-mul ha hs,
      mul-le-mul hb hc,
    )

-- x or q: 1000 r n is a A + b B, the exact A and B being 1000 u and 1000 v
pub flat_error : (r : ℕ) (n a b s c u v A B : ℤ) → 2000000000 ≤ r → nat_abs a ≤ 6500000000 → nat_abs b ≤ 6500000000
    → 2 * nat_abs (pos 100000000 *ℤ n -ℤ (a *ℤ s +ℤ b *ℤ c)) ≤ 100000000
    → 2 * nat_abs (pos r *ℤ s -ℤ u *ℤ pos 100000000) ≤ r → 2 * nat_abs (pos r *ℤ c -ℤ v *ℤ pos 100000000) ≤ r
    → nat_abs (pos 1000 *ℤ u -ℤ A) ≤ 500 → nat_abs (pos 1000 *ℤ v -ℤ B) ≤ 500
    → nat_abs (pos (1000 * r) *ℤ n -ℤ (a *ℤ A +ℤ b *ℤ B)) ≤ 101250 * r
flat_error r n a b s c u v A B hr ha hb hn hs hc hA hB =
    let w = pos r *ℤ n -ℤ (a *ℤ u +ℤ b *ℤ v) in
    let y = pos 1000 *ℤ u -ℤ A in
    let z = pos 1000 *ℤ v -ℤ B in
    let hb' : nat_abs b ≤ 13000000000 = omega arith in
    let e = ring (pos r ∷ n ∷ a ∷ b ∷ u ∷ v ∷ A ∷ B ∷ []) (num 1000 ⊗ v0 ⊗ v1 ⊖ (v2 ⊗ v6 ⊕ v3 ⊗ v7))
    (num 1000 ⊗ (v0 ⊗ v1 ⊖ (v2 ⊗ v4 ⊕ v3 ⊗ v5)) ⊕ v2 ⊗ (num 1000 ⊗ v4 ⊖ v6) ⊕ v3 ⊗ (num 1000 ⊗ v5 ⊖ v7)) tt in
    omega (
      arith,
      ap nat_abs e,
      nat_abs_sum (pos 1000 *ℤ w +ℤ a *ℤ y) (b *ℤ z),
      nat_abs_sum (pos 1000 *ℤ w) (a *ℤ y),
      nat_abs_product (pos 1000) w,
      nat_abs_product_le a y 6500000000 500 ha hA,
      nat_abs_product_le b z 6500000000 500 hb hB,
      turn r n a b s c u v ha hb' hn hs hc,
    )

-- 10^6 r² and what it stands for: r the root of m
pub root-error : (B : ℤ) (m r E : ℕ) → r * r ≤ m → m ≤ r * r + 2 * r → nat_abs (B -ℤ pos (1000000 * m)) ≤ E
    → nat_abs (pos (1000000 * (r * r)) -ℤ B) ≤ E + 2000000 * r
root-error B m r E lo hi h =
    let g : nat_abs (pos 1000000 *ℤ (pos r *ℤ pos r) -ℤ pos 1000000 *ℤ pos m) ≤ 2000000 * r = nat_abs_by (pos (1000000 * (r * r)) -ℤ pos (1000000 * m))
    (omega (arith, (sum (pos (1000000 * (r * r))) (neg_ℤ (pos (1000000 * m)))).is, (opposite (pos (1000000 * m))).is))
    (omega (arith, (sum (pos (1000000 * (r * r))) (neg_ℤ (pos (1000000 * m)))).is, (opposite (pos (1000000 * m))).is)) in
    omega (
      arith,
      ap nat_abs (ring (B ∷ pos m ∷ pos r ∷ []) (num 1000000 ⊗ (v2 ⊗ v2) ⊖ v0) ((num 1000000 ⊗ (v2 ⊗ v2) ⊖ num 1000000 ⊗ v1) ⊖ (v0 ⊖ num 1000000 ⊗ v1)) tt),
      nat_abs_minus (pos (1000000 * (r * r)) -ℤ pos (1000000 * m)) (B -ℤ pos (1000000 * m)),
      g,
    )

-- y: 10^6 r R y is Z P − Gz Q
pub north-error : (r R : ℕ) (y Z q g G P Q : ℤ) → 2000000000 ≤ r → r ≤ R → nat_abs Z ≤ 6500000000 → nat_abs g ≤ R → nat_abs Q ≤ 31284500000000000000000
    → nat_abs (pos R *ℤ y -ℤ (Z *ℤ pos r +ℤ neg_ℤ q *ℤ g)) ≤ 98 * R
    → nat_abs (pos (1000000 * (r * r)) -ℤ P) ≤ 5000000 * r
    → nat_abs (pos 1000 *ℤ g -ℤ G) ≤ 500
    → nat_abs (pos (1000 * r) *ℤ q -ℤ Q) ≤ 101250 * r
    → nat_abs (pos (1000 * r * (1000 * R)) *ℤ y -ℤ (Z *ℤ P -ℤ G *ℤ Q)) ≤ 220000000 * (r * R)
north-error r R y Z q g G P Q hr hR hZ hg hQ h1 h2 h3 h4 =
    let a = pos R *ℤ y -ℤ (Z *ℤ pos r +ℤ neg_ℤ q *ℤ g) in
    let b = pos (1000000 * (r * r)) -ℤ P in
    let c = pos 1000 *ℤ g -ℤ G in
    let d = pos (1000 * r) *ℤ q -ℤ Q in
    let t1 = pos (1000000 * r) *ℤ a in
    let t2 = Z *ℤ b in
    let t3 = pos 1000 *ℤ (g *ℤ d) in
    let t4 = Q *ℤ c in
    let e = ring (pos r ∷ pos R ∷ y ∷ Z ∷ q ∷ g ∷ G ∷ P ∷ Q ∷ []) (num 1000 ⊗ v0 ⊗ (num 1000 ⊗ v1) ⊗ v2 ⊖ (v3 ⊗ v7 ⊖ v6 ⊗ v8))
    (num 1000000 ⊗ v0 ⊗ (v1 ⊗ v2 ⊖ (v3 ⊗ v0 ⊕ opp v4 ⊗ v5)) ⊕ v3 ⊗ (num 1000000 ⊗ (v0 ⊗ v0) ⊖ v7)
    ⊖ num 1000 ⊗ (v5 ⊗ (num 1000 ⊗ v0 ⊗ v4 ⊖ v8)) ⊖ v8 ⊗ (num 1000 ⊗ v5 ⊖ v6)) tt in
    omega (
      arith,
      ap nat_abs e,
      nat_abs_minus (t1 +ℤ t2 -ℤ t3) t4,
      nat_abs_minus (t1 +ℤ t2) t3,
      nat_abs_sum t1 t2,
      nat_abs_product (pos (1000000 * r)) a,
      nat_abs_product Z b,
      nat_abs_product (pos 1000) (g *ℤ d),
      nat_abs_product g d,
      nat_abs_product_le Q c 31284500000000000000000 500 hQ h3,
      mul-le-mul_left r h1,
      mul-le-mul hZ h2,
      mul-le-mul hg h4,
      -- 2·10^9 r ≤ r R, 4·10^18 ≤ r R
      mul-le-mul_left r (le_trans hr hR),
    )

-- z: 1000 R z is C = Q + Z G
pub axis_error : (r R : ℕ) (z Z q g G Q : ℤ) → 2000000000 ≤ r → r ≤ R → nat_abs Z ≤ 6500000000
    → nat_abs (pos R *ℤ z -ℤ (Z *ℤ g +ℤ q *ℤ pos r)) ≤ 98 * R
    → nat_abs (pos 1000 *ℤ g -ℤ G) ≤ 500
    → nat_abs (pos (1000 * r) *ℤ q -ℤ Q) ≤ 101250 * r
    → nat_abs (pos (1000 * R) *ℤ z -ℤ (Q +ℤ Z *ℤ G)) ≤ 200875 * R
axis_error r R z Z q g G Q hr hR hZ h1 h3 h4 =
    let a = pos R *ℤ z -ℤ (Z *ℤ g +ℤ q *ℤ pos r) in
    let c = pos 1000 *ℤ g -ℤ G in
    let d = pos (1000 * r) *ℤ q -ℤ Q in
    omega (
      arith,
      ap nat_abs (ring (pos r ∷ pos R ∷ z ∷ Z ∷ q ∷ g ∷ G ∷ Q ∷ []) (num 1000 ⊗ v1 ⊗ v2 ⊖ (v7 ⊕ v3 ⊗ v6))
          (num 1000 ⊗ (v1 ⊗ v2 ⊖ (v3 ⊗ v5 ⊕ v4 ⊗ v0)) ⊕ v3 ⊗ (num 1000 ⊗ v5 ⊖ v6) ⊕ (num 1000 ⊗ v0 ⊗ v4 ⊖ v7)) tt),
      nat_abs_sum (pos 1000 *ℤ a +ℤ Z *ℤ c) d,
      nat_abs_sum (pos 1000 *ℤ a) (Z *ℤ c),
      nat_abs_product (pos 1000) a,
      nat_abs_product_le Z c 6500000000 500 hZ h3,
    )

-- the cone's terms: 10^6 R T u is C S, and 10^6 R T w is k N
pub slope_error : (R T S : ℕ) (z t u C : ℤ) → 1990000000 ≤ T → S ≤ 10957300000 → nat_abs z ≤ 19500000000
    → 2 * nat_abs (pos 100000000 *ℤ u -ℤ z *ℤ t) ≤ 100000000
    → 2 * nat_abs (pos T *ℤ t -ℤ pos (S * 100000)) ≤ T
    → nat_abs (pos (1000 * R) *ℤ z -ℤ C) ≤ 200875 * R
    → nat_abs (pos (1000 * R * (1000 * T)) *ℤ u -ℤ C *ℤ pos S) ≤ 99150000 * (R * T)
slope_error R T S z t u C hT hS hz hu ht hC =
    let a = pos 100000000 *ℤ u -ℤ z *ℤ t in
    let b = pos T *ℤ t -ℤ pos (S * 100000) in
    let c = pos (1000 * R) *ℤ z -ℤ C in
    let w = pos (1000 * R * (1000 * T)) *ℤ u -ℤ C *ℤ pos S in
    let t1 = pos (1000000 * (R * T)) *ℤ a in
    let t2 = pos (1000000 * R) *ℤ (z *ℤ b) in
    let t3 = pos (100000000 * S) *ℤ c in
    let e = ring (pos R ∷ pos T ∷ pos S ∷ z ∷ t ∷ u ∷ C ∷ []) (num 100000000 ⊗ (num 1000 ⊗ v0 ⊗ (num 1000 ⊗ v1) ⊗ v5 ⊖ v6 ⊗ v2))
    (num 1000000 ⊗ (v0 ⊗ v1) ⊗ (num 100000000 ⊗ v5 ⊖ v3 ⊗ v4) ⊕ num 1000000 ⊗ v0 ⊗ (v3 ⊗ (v1 ⊗ v4 ⊖ v2 ⊗ num 100000))
    ⊕ num 100000000 ⊗ v2 ⊗ (num 1000 ⊗ v0 ⊗ v3 ⊖ v6)) tt in
    let zb : 2 * nat_abs (z *ℤ b) ≤ 19500000000 * T = omega (arith, nat_abs_product z b, mul-le-mul hz ht) in
    omega (
      arith,
      ap nat_abs e,
      nat_abs_product (pos 100000000) w,
      nat_abs_sum (t1 +ℤ t2) t3,
      nat_abs_sum t1 t2,
      nat_abs_product (pos (1000000 * (R * T))) a,
      nat_abs_product (pos (1000000 * R)) (z *ℤ b),
      nat_abs_product (pos (100000000 * S)) c,
      mul-le-mul_left (R * T) hu,
      mul-le-mul_left R zb,
      mul-le-mul hS hC,
      mul-le-mul_left R hT,
    )

pub foot_error : (R T k : ℕ) (w N : ℤ) → 1990000000 ≤ T → k ≤ 27300000
    → 2 * nat_abs (pos T *ℤ w -ℤ pos k *ℤ pos R) ≤ T
    → nat_abs (pos (1000000 * (R * R)) -ℤ N) ≤ 6000000 * R
    → nat_abs (pos (1000 * R * (1000 * T)) *ℤ w -ℤ pos k *ℤ N) ≤ 600000 * (R * T)
foot_error R T k w N hT hk hw hN =
    let a = pos T *ℤ w -ℤ pos k *ℤ pos R in
    let b = pos (1000000 * (R * R)) -ℤ N in
    omega (
      arith,
      ap nat_abs (ring (pos R ∷ pos T ∷ w ∷ N ∷ pos k ∷ []) (num 1000 ⊗ v0 ⊗ (num 1000 ⊗ v1) ⊗ v2 ⊖ v4 ⊗ v3)
          (num 1000000 ⊗ v0 ⊗ (v1 ⊗ v2 ⊖ v4 ⊗ v0) ⊕ v4 ⊗ (num 1000000 ⊗ (v0 ⊗ v0) ⊖ v3)) tt),
      nat_abs_sum (pos (1000000 * R) *ℤ a) (pos k *ℤ b),
      nat_abs_product (pos (1000000 * R)) a,
      nat_abs_product_le (pos k) b 27300000 (6000000 * R) hk hN,
      mul-le-mul_left R hw,
      mul-le-mul_left R hT,
    )

pub sum-error : (D x y : ℕ) (u w A B : ℤ) → nat_abs (pos D *ℤ u -ℤ A) ≤ x → nat_abs (pos D *ℤ w -ℤ B) ≤ y → nat_abs (pos D *ℤ (u +ℤ w) -ℤ (A +ℤ B)) ≤ x + y
sum-error D x y u w A B h k =
    omega (
      arith,
      ap nat_abs (ring (pos D ∷ u ∷ w ∷ A ∷ B ∷ []) (v0 ⊗ (v1 ⊕ v2) ⊖ (v3 ⊕ v4)) ((v0 ⊗ v1 ⊖ v3) ⊕ (v0 ⊗ v2 ⊖ v4)) tt),
      nat_abs_sum (pos D *ℤ u -ℤ A) (pos D *ℤ w -ℤ B),
    )

pub difference-error : (D x y : ℕ) (u w A B : ℤ) → nat_abs (pos D *ℤ u -ℤ A) ≤ x → nat_abs (pos D *ℤ w -ℤ B) ≤ y → nat_abs (pos D *ℤ (u -ℤ w) -ℤ (A -ℤ B)) ≤ x + y
difference-error D x y u w A B h k =
    omega (
      arith,
      ap nat_abs (ring (pos D ∷ u ∷ w ∷ A ∷ B ∷ []) (v0 ⊗ (v1 ⊖ v2) ⊖ (v3 ⊖ v4)) ((v0 ⊗ v1 ⊖ v3) ⊖ (v0 ⊗ v2 ⊖ v4)) tt),
      nat_abs_minus (pos D *ℤ u -ℤ A) (pos D *ℤ w -ℤ B),
    )
