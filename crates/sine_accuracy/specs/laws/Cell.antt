-- The rule against a polynomial q0 + q1·b + q2·b² + .. in a cell of table S, b millionths over the cell's start, with
-- W for `common`.
--   cell      where the test `tight` passes, entry and step are within 1.78 units of 10^8 times the polynomial over W
--   topped    where the test `low` passes, the polynomial counted back from the cell's end is at most 1 and a unit, so that the cap does no harm
-- Why: 2·10^30 times the distance is a sum of seven terms (`split`), one for each source of error, and `off` is the
-- sum of their largest sizes.
use Rattle.std.specs.Prelude.{◌≡◌, Bool, false, ℕ, zero, suc, ◌+◌, ◌*◌, ◌≤◌, T, leb, ℤ, negsuc, ◌+ℤ◌, ◌-ℤ◌, ◌*ℤ◌, ◌≤ℤ◌}
use mathlib.Core.List.{List, [], ◌∷◌}
use Rattle.std.proofs.Common.{arith, mul-le-mul, mul-le-mul_left}
use Rattle.std.proofs.Math.Nat.{le_of_mul-le-mul_left}
use Rattle.std.proofs.Math.Dec.{leb→le}
use Rattle.std.proofs.Math.IntN.{pos, neg_ℤ, nat_abs, zero-*ℤ}
use Rattle.rounding.specs.Parts.{pos_p, neg_p, opposite}
use Rattle.rounding.specs.laws.Order.{parts-≤, ≤ℤ_trans, le_nat_abs, nat_abs_sum, nat_abs_minus, nat_abs_opposite, nat_abs_product, nat_abs_product_le}
use Rattle.rounding.specs.laws.Ring.{Expr, var, num, ◌⊕◌, ◌⊖◌, ◌⊗◌, opp, ring, v0, v1, v2, v3, v4, v5, v6, v7, v8, v9}
use Rattle.rounding.specs.laws.Cert.{leq, lit, ◌⊞◌, ◌⊠◌, certify}
use Rattle.sine_accuracy.specs.laws.Lists.{worth, size, worth-size}

-- what entry k is off; what 17,453,293·10^-15 times entry 900-k is off the slope q1; what the square of that, times
-- entry k, is off the bend 2·q2
abbrev pub entry_off : ℤ → ℤ → ℤ → ℤ
entry_off W s q0 = W *ℤ s -ℤ pos 100_000_000 *ℤ q0

abbrev pub slope_off : ℤ → ℤ → ℤ → ℤ
slope_off W c q1 = pos 17_453_293 *ℤ W *ℤ c -ℤ pos 100_000_000_000_000_000_000_000 *ℤ q1

abbrev pub bend_off : ℤ → ℤ → ℤ → ℤ
bend_off W s q2 = pos 304_617_436_543_849 *ℤ W *ℤ s +ℤ pos 200_000_000_000_000_000_000_000_000_000_000_000_000 *ℤ q2

-- the most that the rule may be off, times 2·10^30·W: by the entry, the slope, the rounding of r, the bend, the
-- roundings of r and w in the square, the last rounding, and the powers from the third on
unfoldable pub off : ℤ → ℤ → ℤ → ℤ → ℤ → ℤ → ℕ → ℕ
off W s c q0 q1 q2 rest =
    2_000_000_000_000_000_000_000_000_000_000 * nat_abs (entry_off W s q0)
    + 2_000_000_000_000_000 * (nat_abs (slope_off W c q1) * 100_000)
    + 2_000_000_000_000_000 * (nat_abs W * nat_abs c * 5_000_000)
    + nat_abs (bend_off W s q2) * (100_000 * 100_000)
    + nat_abs W * nat_abs s * (5_000_000 * (34_906_586 * 100_000 + 5_000_000) + 100_000_000_000_000 * 100_000_000)
    + 20_000_000_000_000_000_000_000 * (nat_abs W * 50_000_000)
    + 200_000_000_000_000_000_000_000_000_000_000_000_000 * (100_000 * 100_000 * 100_000 * rest)

-- the test of a cell: s, c are entries k and 900 - k, the list is the polynomial counted from the cell's start
unfoldable pub tight : ℤ → ℤ → ℤ → List ℤ → Bool
unfolding off size
tight W s c (q0 ∷ q1 ∷ q2 ∷ qs) = leb (100 * off W s c q0 q1 q2 (size 100_000 qs)) (178 * (2_000_000_000_000_000_000_000_000_000_000 * nat_abs W))
tight W s c (q0 ∷ q1 ∷ []) = false
tight W s c (q0 ∷ []) = false
tight W s c [] = false

-- the test of a node that the angles come before: q1 is not below 0 and q2 not above, or hardly, so back from there
-- the polynomial falls, but for the powers from the third on
unfoldable pub low : ℕ → List ℤ → Bool
unfolding size
low W (q0 ∷ q1 ∷ q2 ∷ qs) =
    leb (100_000_000 * (nat_abs q0 + neg_p q1 * 100_000 + pos_p q2 * (100_000 * 100_000) + 100_000 * 100_000 * 100_000 * size 100_000 qs)) (100_000_001 * W)
low W (q0 ∷ q1 ∷ []) = false
low W (q0 ∷ []) = false
low W [] = false

-- ---- the rule's errors

seven : (y1 y2 y3 y4 y5 y6 y7 : ℤ) {m1 m2 m3 m4 m5 m6 m7 : ℕ}
    → nat_abs y1 ≤ m1 → nat_abs y2 ≤ m2 → nat_abs y3 ≤ m3 → nat_abs y4 ≤ m4 → nat_abs y5 ≤ m5 → nat_abs y6 ≤ m6 → nat_abs y7 ≤ m7
    → nat_abs (y1 +ℤ y2 +ℤ y3 -ℤ y4 -ℤ y5 +ℤ y6 -ℤ y7) ≤ m1 + m2 + m3 + m4 + m5 + m6 + m7
seven y1 y2 y3 y4 y5 y6 y7 h1 h2 h3 h4 h5 h6 h7 =
    omega (
      arith,
      nat_abs_sum y1 y2,
      nat_abs_sum (y1 +ℤ y2) y3,
      nat_abs_minus (y1 +ℤ y2 +ℤ y3) y4,
      nat_abs_minus (y1 +ℤ y2 +ℤ y3 -ℤ y4) y5,
      nat_abs_sum (y1 +ℤ y2 +ℤ y3 -ℤ y4 -ℤ y5) y6,
      nat_abs_minus (y1 +ℤ y2 +ℤ y3 -ℤ y4 -ℤ y5 +ℤ y6) y7,
    )

-- a product of sizes
by : (y z : ℤ) {m n : ℕ} → nat_abs y ≤ m → nat_abs z ≤ n → nat_abs (y *ℤ z) ≤ m * n
by y z {m} {n} h k = nat_abs_product_le y z m n h k

self : (y : ℤ) → nat_abs y ≤ nat_abs y
self y = omega arith

bent : (a b e : ℤ) → nat_abs a ≤ 5_000_000 → nat_abs b ≤ 100_000 → nat_abs e ≤ 100_000_000
    → nat_abs (a *ℤ (pos 34_906_586 *ℤ b +ℤ a) +ℤ pos 100_000_000_000_000 *ℤ e)
    ≤ 5_000_000 * (34_906_586 * 100_000 + 5_000_000) + 100_000_000_000_000 * 100_000_000
bent a b e ha hb he =
    let ba : nat_abs (pos 34_906_586 *ℤ b +ℤ a) ≤ 34_906_586 * 100_000 + 5_000_000
    = omega (arith, nat_abs_sum (pos 34_906_586 *ℤ b) a, by (pos 34_906_586) b (self (pos 34_906_586)) hb) in
    omega (
      arith,
      nat_abs_sum (a *ℤ (pos 34_906_586 *ℤ b +ℤ a)) (pos 100_000_000_000_000 *ℤ e),
      by a (pos 34_906_586 *ℤ b +ℤ a) ha ba,
      by (pos 100_000_000_000_000) e (self (pos 100_000_000_000_000)) he,
    )

-- r, w and n with the errors A, ε and φ of their roundings, at b over the start of a cell
abbrev pub err_a : ℤ → ℤ → ℤ
err_a b r = pos 10_000_000 *ℤ r -ℤ b *ℤ pos 17_453_293

abbrev pub err_e : ℤ → ℤ → ℤ
err_e r w = pos 200_000_000 *ℤ w -ℤ r *ℤ r

abbrev pub err_f : ℤ → ℤ → ℤ → ℤ → ℤ → ℤ
err_f s c r w n = pos 100_000_000 *ℤ n -ℤ (c *ℤ r -ℤ s *ℤ w)

pub record Rounded (s c b r w n : ℤ) : Type 0 where
  pub b_small : nat_abs b ≤ 100_000
  pub r_near : nat_abs (err_a b r) ≤ 5_000_000
  pub w_near : nat_abs (err_e r w) ≤ 100_000_000
  pub n_near : nat_abs (err_f s c r w n) ≤ 50_000_000

module _ (W s c b r w n q0 q1 q2 t : ℤ) where
  A : ℤ
  A = err_a b r

  ε : ℤ
  ε = err_e r w

  φ : ℤ
  φ = err_f s c r w n

  apart : ℤ
  apart = W *ℤ (s +ℤ n) -ℤ pos 100_000_000 *ℤ (q0 +ℤ b *ℤ (q1 +ℤ b *ℤ (q2 +ℤ b *ℤ t)))

  split : pos 2_000_000_000_000_000_000_000_000_000_000 *ℤ apart
      ≡ pos 2_000_000_000_000_000_000_000_000_000_000 *ℤ entry_off W s q0
      +ℤ pos 2_000_000_000_000_000 *ℤ (slope_off W c q1 *ℤ b)
      +ℤ pos 2_000_000_000_000_000 *ℤ (W *ℤ c *ℤ A)
      -ℤ bend_off W s q2 *ℤ (b *ℤ b)
      -ℤ W *ℤ s *ℤ (A *ℤ (pos 34_906_586 *ℤ b +ℤ A) +ℤ pos 100_000_000_000_000 *ℤ ε)
      +ℤ pos 20_000_000_000_000_000_000_000 *ℤ (W *ℤ φ)
      -ℤ pos 200_000_000_000_000_000_000_000_000_000_000_000_000 *ℤ (b *ℤ b *ℤ b *ℤ t)
  unfolding apart A φ ε
  split =
      let eA : Expr = num 10_000_000 ⊗ v4 ⊖ v3 ⊗ num 17_453_293 in
      let eE : Expr = num 200_000_000 ⊗ v5 ⊖ v4 ⊗ v4 in
      let eF : Expr = num 100_000_000 ⊗ v6 ⊖ (v2 ⊗ v4 ⊖ v1 ⊗ v5) in
      ring (W ∷ s ∷ c ∷ b ∷ r ∷ w ∷ n ∷ q0 ∷ q1 ∷ q2 ∷ t ∷ [])
      (num 2_000_000_000_000_000_000_000_000_000_000 ⊗ (v0 ⊗ (v1 ⊕ v6) ⊖ num 100_000_000 ⊗ (v7 ⊕ v3 ⊗ (v8 ⊕ v3 ⊗ (v9 ⊕ v3 ⊗ var 10)))))
      (num 2_000_000_000_000_000_000_000_000_000_000 ⊗ (v0 ⊗ v1 ⊖ num 100_000_000 ⊗ v7)
      ⊕ num 2_000_000_000_000_000 ⊗ ((num 17_453_293 ⊗ v0 ⊗ v2 ⊖ num 100_000_000_000_000_000_000_000 ⊗ v8) ⊗ v3)
      ⊕ num 2_000_000_000_000_000 ⊗ (v0 ⊗ v2 ⊗ eA)
      ⊖ (num 304_617_436_543_849 ⊗ v0 ⊗ v1 ⊕ num 200_000_000_000_000_000_000_000_000_000_000_000_000 ⊗ v9) ⊗ (v3 ⊗ v3)
      ⊖ v0 ⊗ v1 ⊗ (eA ⊗ (num 34_906_586 ⊗ v3 ⊕ eA) ⊕ num 100_000_000_000_000 ⊗ eE)
      ⊕ num 20_000_000_000_000_000_000_000 ⊗ (v0 ⊗ eF)
      ⊖ num 200_000_000_000_000_000_000_000_000_000_000_000_000 ⊗ (v3 ⊗ v3 ⊗ v3 ⊗ var 10)) tt

  module _ (h : Rounded s c b r w n) (m : ℕ) (t-small : nat_abs t ≤ m) where
    r-off : nat_abs A ≤ 5_000_000
    unfolding A
    r-off = h.r_near

    w-off : nat_abs ε ≤ 100_000_000
    unfolding ε
    w-off = h.w_near

    n-off : nat_abs φ ≤ 50_000_000
    unfolding φ
    n-off = h.n_near

    sized : nat_abs (pos 2_000_000_000_000_000_000_000_000_000_000 *ℤ apart) ≤ off W s c q0 q1 q2 m
    unfolding off
    sized =
        rw split (seven
        (pos 2_000_000_000_000_000_000_000_000_000_000 *ℤ entry_off W s q0)
        (pos 2_000_000_000_000_000 *ℤ (slope_off W c q1 *ℤ b))
        (pos 2_000_000_000_000_000 *ℤ (W *ℤ c *ℤ A))
        (bend_off W s q2 *ℤ (b *ℤ b))
        (W *ℤ s *ℤ (A *ℤ (pos 34_906_586 *ℤ b +ℤ A) +ℤ pos 100_000_000_000_000 *ℤ ε))
        (pos 20_000_000_000_000_000_000_000 *ℤ (W *ℤ φ))
        (pos 200_000_000_000_000_000_000_000_000_000_000_000_000 *ℤ (b *ℤ b *ℤ b *ℤ t))
        (by (pos 2_000_000_000_000_000_000_000_000_000_000) (entry_off W s q0) (self (pos 2_000_000_000_000_000_000_000_000_000_000)) (self (entry_off W s q0)))
        (by (pos 2_000_000_000_000_000) (slope_off W c q1 *ℤ b) (self (pos 2_000_000_000_000_000)) (by (slope_off W c q1) b (self (slope_off W c q1)) h.b_small))
        (by (pos 2_000_000_000_000_000) (W *ℤ c *ℤ A) (self (pos 2_000_000_000_000_000)) (by (W *ℤ c) A (by W c (self W) (self c)) r-off))
        (by (bend_off W s q2) (b *ℤ b) (self (bend_off W s q2)) (by b b h.b_small h.b_small))
        (by (W *ℤ s) (A *ℤ (pos 34_906_586 *ℤ b +ℤ A) +ℤ pos 100_000_000_000_000 *ℤ ε) (by W s (self W) (self s)) (bent A b ε r-off h.b_small w-off))
        (by (pos 20_000_000_000_000_000_000_000) (W *ℤ φ) (self (pos 20_000_000_000_000_000_000_000)) (by W φ (self W) n-off))
        (by (pos 200_000_000_000_000_000_000_000_000_000_000_000_000) (b *ℤ b *ℤ b *ℤ t) (self (pos 200_000_000_000_000_000_000_000_000_000_000_000_000))
        (by (b *ℤ b *ℤ b) t (by (b *ℤ b) b (by b b h.b_small h.b_small) h.b_small) t-small)))

    close : 100 * off W s c q0 q1 q2 m ≤ 178 * (2_000_000_000_000_000_000_000_000_000_000 * nat_abs W) → 100 * nat_abs apart ≤ 178 * nat_abs W
    close l =
        le_of_mul-le-mul_left {m = 100 * nat_abs apart} {n = 178 * nat_abs W} {k = 2_000_000_000_000_000_000_000_000_000_000}
        (omega (arith, sized, nat_abs_product (pos 2_000_000_000_000_000_000_000_000_000_000) apart)) (omega arith)

-- ---- a cell

pub cell : (W s c b r w n : ℤ) (qs : List ℤ) → T (tight W s c qs) → Rounded s c b r w n
    → 100 * nat_abs (W *ℤ (s +ℤ n) -ℤ pos 100_000_000 *ℤ worth qs b) ≤ 178 * nat_abs W
unfolding tight worth apart
cell W s c b r w n (q0 ∷ q1 ∷ q2 ∷ qs) t h =
    close W s c b r w n q0 q1 q2 (worth qs b) h (size 100_000 qs) (worth-size 100_000 b h.b_small qs)
    (leb→le (100 * off W s c q0 q1 q2 (size 100_000 qs)) (178 * (2_000_000_000_000_000_000_000_000_000_000 * nat_abs W)) t)
cell W s c b r w n (q0 ∷ q1 ∷ []) t h = absurd t
cell W s c b r w n (q0 ∷ []) t h = absurd t
cell W s c b r w n [] t h = absurd t

-- ---- order
sum_mono : {a b c d : ℤ} → a ≤ℤ b → c ≤ℤ d → (a +ℤ c) ≤ℤ (b +ℤ d)
sum_mono {a} {b} {c} {d} h k = certify 0 (a ∷ b ∷ c ∷ d ∷ []) (v0 ⊕ v2) (v1 ⊕ v3) (leq v0 v1 h ⊞ leq v2 v3 k) tt

units_mono : {a b : ℤ} → a ≤ℤ b → (pos 100_000_000 *ℤ a) ≤ℤ (pos 100_000_000 *ℤ b)
units_mono {a} {b} h = certify 0 (a ∷ b ∷ []) (num 100_000_000 ⊗ v0) (num 100_000_000 ⊗ v1) (lit 100_000_000 ⊠ leq v0 v1 h) tt

-- ---- back from the end of a cell: at most 10^8 and a unit

back : (b : ℕ) (q : ℤ) → b ≤ 100_000 → (neg_ℤ (pos b) *ℤ q) ≤ℤ pos (neg_p q * 100_000)
back zero q h = rw (zero-*ℤ q) (parts-≤ (omega arith))
back (suc b) (pos m) h = parts-≤ (omega (arith, (opposite (pos (suc b * m))).is))
back (suc b) (negsuc m) h = parts-≤ (omega (arith, mul-le-mul_left (suc m) h))

square : (b : ℕ) (q : ℤ) → b ≤ 100_000 → (pos b *ℤ pos b *ℤ q) ≤ℤ pos (pos_p q * (100_000 * 100_000))
square b (pos m) h = parts-≤ (omega (arith, mul-le-mul_left m (mul-le-mul h h)))
square b (negsuc m) h = parts-≤ (omega (arith, (opposite (pos (b * b * suc m))).is))

module _ (W b : ℕ) (b_small : b ≤ 100_000) where
  x : ℤ
  x = neg_ℤ (pos b)

  x-size : nat_abs x ≤ 100_000
  unfolding x
  x-size = omega (arith, nat_abs_opposite (pos b))

  third : (t : ℤ) (m : ℕ) → nat_abs t ≤ m → (x *ℤ x *ℤ x *ℤ t) ≤ℤ pos (100_000 * 100_000 * 100_000 * m)
  third t m h = le_nat_abs (x *ℤ x *ℤ x *ℤ t) (by (x *ℤ x *ℤ x) t (by (x *ℤ x) x (by x x x-size x-size) x-size) h)

  falls : (q0 q1 q2 t : ℤ) (m : ℕ) → nat_abs t ≤ m
      → (q0 +ℤ x *ℤ (q1 +ℤ x *ℤ (q2 +ℤ x *ℤ t)))
      ≤ℤ pos (nat_abs q0 + neg_p q1 * 100_000 + pos_p q2 * (100_000 * 100_000) + 100_000 * 100_000 * 100_000 * m)
  unfolding x
  falls q0 q1 q2 t m h =
      let apart : q0 +ℤ neg_ℤ (pos b) *ℤ (q1 +ℤ neg_ℤ (pos b) *ℤ (q2 +ℤ neg_ℤ (pos b) *ℤ t))
      ≡ q0 +ℤ neg_ℤ (pos b) *ℤ q1 +ℤ pos b *ℤ pos b *ℤ q2 +ℤ neg_ℤ (pos b) *ℤ neg_ℤ (pos b) *ℤ neg_ℤ (pos b) *ℤ t
      = ring (pos b ∷ q0 ∷ q1 ∷ q2 ∷ t ∷ [])
      (v1 ⊕ opp v0 ⊗ (v2 ⊕ opp v0 ⊗ (v3 ⊕ opp v0 ⊗ v4)))
      (v1 ⊕ opp v0 ⊗ v2 ⊕ v0 ⊗ v0 ⊗ v3 ⊕ opp v0 ⊗ opp v0 ⊗ opp v0 ⊗ v4) tt in
      rw apart (sum_mono (sum_mono (sum_mono (le_nat_abs q0 {m = nat_abs q0} (self q0)) (back b q1 b_small)) (square b q2 b_small)) (third t m h))

  pub topped : (qs : List ℤ) → T (low W qs) → (pos 100_000_000 *ℤ worth qs (neg_ℤ (pos b))) ≤ℤ pos (100_000_001 * W)
  unfolding low worth x
  topped (q0 ∷ q1 ∷ q2 ∷ qs) t =
      let all = nat_abs q0 + neg_p q1 * 100_000 + pos_p q2 * (100_000 * 100_000) + 100_000 * 100_000 * 100_000 * size 100_000 qs in
      let test : 100_000_000 * all ≤ 100_000_001 * W = leb→le (100_000_000 * all) (100_000_001 * W) t in
      ≤ℤ_trans
      (units_mono (falls q0 q1 q2 (worth qs (neg_ℤ (pos b))) (size 100_000 qs) (worth-size 100_000 x x-size qs)))
      (parts-≤ (omega arith))
  topped (q0 ∷ q1 ∷ []) t = absurd t
  topped (q0 ∷ []) t = absurd t
  topped [] t = absurd t
