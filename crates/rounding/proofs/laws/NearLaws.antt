-- What callers use of `near`: they never see its definition. Each law asks that k is at least 1.
--   near-is, near_unique   it is the one q on n's side of zero whose size is |n| / k to the nearest, halves up
--   near-opposite          of -n it is the opposite
--   near-error             at most half of k away:      2 |k·near − n| ≤ k
--   near-size, near_le     its size:                    |n| ≤ m k gives |near n k| ≤ m
--   near_zero, near_mono   zero, and order
--   near-pos               of what is not negative, by one division of naturals
--   near_above, near_below as the machine divides, which is toward zero
-- Example, the error of a product to the nearest unit: near-error (x *ℤ y) (pos 100000000) (le_z_yes tt).
use Rattle.std.specs.Prelude.{◌≡◌, refl, [], ◌∷◌, ℕ, zero, suc, ◌+◌, ◌*◌, ◌/◌, ◌≤◌, ◌<◌, ℤ, pos, negsuc, neg_ℤ, nat_abs, ◌+ℤ◌, ◌-ℤ◌, ◌*ℤ◌, ◌≤ℤ◌, ◌<ℤ◌}
use Rattle.std.proofs.Common.{sym, ap, ◌∙◌, arith, suc-add, mul-le-mul_left, mod-lt}
use Rattle.std.proofs.Math.Nat.{lt_of_mul-lt-mul_left, div-add-mod, div-eq_of_lt, mul-add-div, div-div-eq-div-mul}
use Rattle.std.proofs.Math.IntN.{neg_ℤ-neg_ℤ}
use Rattle.std.specs.Int.Signed.{quot_z}
use Rattle.rounding.specs.Parts.{pos_p, sum, opposite, product, same}
use Rattle.rounding.specs.laws.Order.{zs, ≤-parts, parts-≤, ≤ℤ_trans, ≤ℤ_antisym, nonneg}
use Rattle.rounding.specs.laws.Order.{nat_abs_parts, nat_abs_by, le_nat_abs, neg_nat_abs, nat_abs_opposite, nat_abs_product}
use Rattle.rounding.specs.laws.Ring.{◌⊖◌, ◌⊗◌, opp, ring, v0, v1, v2}
use Rattle.rounding.specs.Near.{half_up, near}

-- ---- from the definition: near of naturals, of 0, and of the opposite
pub near-pos : (n k : ℕ) → near (pos n) (pos k) ≡ pos ((2 * n + k) / (2 * k))
unfolding near
near-pos n k = refl

positive : {k : ℤ} → pos 1 ≤ℤ k → 0 < nat_abs k
positive {k = pos k} h = omega (arith, ≤-parts h)
positive {k = negsuc k} h = absurd h.le

pub near_zero : (k : ℤ) → pos 1 ≤ℤ k → near (pos 0) k ≡ pos 0
unfolding near
near_zero k h = ap pos (div-eq_of_lt (omega (arith, positive h)))

pub near-opposite : (n k : ℤ) → pos 1 ≤ℤ k → near (neg_ℤ n) k ≡ neg_ℤ (near n k)
unfolding near
near-opposite (pos zero) k h = near_zero k h ∙ sym (ap neg_ℤ (near_zero k h))
near-opposite (pos (suc n)) k h = refl
near-opposite (negsuc n) k h = sym (neg_ℤ-neg_ℤ (pos (half_up (suc n) (nat_abs k))))

-- ---- where nothing is negative: 2k q ≤ 2n + k < 2k q + 2k
record HalfUp (n k q : ℕ) : Type 0 where
  low : 2 * (k * q) ≤ 2 * n + k
  high : 2 * n + k < 2 * (k * q) + 2 * k

half_up-is : (n k : ℕ) → 0 < k → HalfUp n k (half_up n k)
half_up-is n k h =
    let e = div-add-mod (2 * n + k) (2 * k) in
    let l = mod-lt (2 * n + k) {m = 2 * k} (omega arith) in
    record { low = omega (arith, e, l); high = omega (arith, e, l) }

half_up_mono : {n m k p q : ℕ} → 0 < k → n ≤ m → HalfUp n k p → HalfUp m k q → p ≤ q
half_up_mono {n} {m} {k} {p} {q} h b f g =
    let l : k * p < k * suc q = omega (arith, f.low, g.high) in
    omega (arith, lt_of_mul-lt-mul_left k l)

half_up_zero : {k : ℕ} → 0 < k → HalfUp 0 k 0
half_up_zero h = record { low = omega arith; high = omega arith }

half_up-error : (n k : ℕ) → 0 < k → 2 * nat_abs (pos k *ℤ pos (half_up n k) -ℤ pos n) ≤ k
half_up-error n k h =
    let q = half_up n k in
    let z = pos k *ℤ pos q -ℤ pos n in
    let i = half_up-is n k h in
    let s = (sum (pos k *ℤ pos q) (neg_ℤ (pos n))).is in
    let o = (opposite (pos n)).is in
    let t = (product (pos 2) z).is in
    omega (
      arith,
      nat_abs_product (pos 2) z,
      nat_abs_by (pos 2 *ℤ z) {m = k} (omega (arith, i.low, i.high, s, o, t)) (omega (arith, i.low, i.high, s, o, t)),
    )

-- ---- the number that it is: on n's side of zero, its size |n| / k to the nearest, halves up; so a half goes away
-- from zero
pub record Nearest (n k q : ℤ) : Type 0 where
  pub low : 2 * (nat_abs k * nat_abs q) ≤ 2 * nat_abs n + nat_abs k
  pub high : 2 * nat_abs n + nat_abs k < 2 * (nat_abs k * nat_abs q) + 2 * nat_abs k
  pub above : pos 0 ≤ℤ n → pos 0 ≤ℤ q
  pub below : n ≤ℤ pos 0 → q ≤ℤ pos 0

pub near-is : (n k : ℤ) → pos 1 ≤ℤ k → Nearest n k (near n k)
unfolding near
near-is (pos n) k h =
    let i = half_up-is n (nat_abs k) (positive h) in
    record {
      low = i.low;
      high = i.high;
      above = λ g. omega (arith, zs);
      below = λ g. omega (arith, zs, half_up_mono (positive h) (omega (arith, zs)) i (half_up_zero (positive h)));
    }
near-is (negsuc n) k h =
    let i = half_up-is (suc n) (nat_abs k) (positive h) in
    let q = pos (half_up (suc n) (nat_abs k)) in
    let s = ap (λ (m : ℕ). nat_abs k * m) (nat_abs_opposite q) in
    record {
      low = omega (arith, i.low, s);
      high = omega (arith, i.high, s);
      above = λ g. absurd g.le;
      below = λ g. omega (arith, zs, (opposite q).is);
    }

-- a larger size gives a larger size
larger : {n m k p q : ℤ} → pos 1 ≤ℤ k → nat_abs n ≤ nat_abs m → Nearest n k p → Nearest m k q → nat_abs p ≤ nat_abs q
larger {n} {m} h b f g =
    half_up_mono {n = nat_abs n} {m = nat_abs m} (positive h) b (record { low = f.low; high = f.high }) (record { low = g.low; high = g.high })

nonpos : {a : ℤ} → a ≤ℤ pos 0 → pos_p a ≡ 0
nonpos {a = pos n} h = omega (arith, ≤-parts h)
nonpos {a = negsuc n} h = refl

-- a larger number gives a larger number
ordered : {n m k p q : ℤ} → pos 1 ≤ℤ k → n ≤ℤ m → Nearest n k p → Nearest m k q → p ≤ℤ q
ordered {n = pos n} {m = pos m} {p} {q} h b f g =
    let p+ = nonneg (f.above (omega (arith, zs))) in
    let q+ = nonneg (g.above (omega (arith, zs))) in
    parts-≤ (omega (arith, larger h (omega (arith, ≤-parts b)) f g, nat_abs_parts p, nat_abs_parts q, p+, q+))
ordered {n = negsuc n} {m = pos m} h b f g = ≤ℤ_trans (f.below (omega (arith, zs))) (g.above (omega (arith, zs)))
ordered {n = negsuc n} {m = negsuc m} {p} {q} h b f g =
    let p- = nonpos (f.below (omega (arith, zs))) in
    let q- = nonpos (g.below (omega (arith, zs))) in
    parts-≤ (omega (arith, larger h (omega (arith, ≤-parts b)) g f, nat_abs_parts p, nat_abs_parts q, p-, q-))
ordered {n = pos n} {m = negsuc m} h b f g = absurd b.le

pub near_mono : (n m k : ℤ) → pos 1 ≤ℤ k → n ≤ℤ m → near n k ≤ℤ near m k
near_mono n m k h b = ordered h b (near-is n k h) (near-is m k h)

pub near_unique : (n k q : ℤ) → pos 1 ≤ℤ k → Nearest n k q → near n k ≡ q
near_unique n k q h f =
    let e : n ≤ℤ n = omega (arith, zs) in
    ≤ℤ_antisym (ordered h e (near-is n k h) f) (ordered h e f (near-is n k h))

-- ---- 2 |k near − n| ≤ k
pub near-error : (n k : ℤ) → pos 1 ≤ℤ k → 2 * nat_abs (k *ℤ near n k -ℤ n) ≤ nat_abs k
unfolding near
near-error (pos n) (pos k) h = half_up-error n k (positive h)
near-error (negsuc n) (pos k) h =
    let q = half_up (suc n) k in
    omega (
      arith,
      half_up-error (suc n) k (positive h),
      nat_abs_opposite (pos k *ℤ pos q -ℤ pos (suc n)),
      ap nat_abs (ring (pos k ∷ pos q ∷ pos (suc n) ∷ []) (v0 ⊗ opp v1 ⊖ opp v2) (opp (v0 ⊗ v1 ⊖ v2)) tt),
    )
near-error n (negsuc k) h = absurd h.le

-- the error, both ways
pub near-low : (n k : ℤ) → pos 1 ≤ℤ k → (pos 2 *ℤ (k *ℤ near n k -ℤ n)) ≤ℤ k
near-low n (pos k) h =
    let z = pos k *ℤ near n (pos k) -ℤ n in
    le_nat_abs (pos 2 *ℤ z) {m = k} (omega (arith, near-error n (pos k) h, nat_abs_product (pos 2) z))
near-low n (negsuc k) h = absurd h.le

pub near-high : (n k : ℤ) → pos 1 ≤ℤ k → neg_ℤ k ≤ℤ (pos 2 *ℤ (k *ℤ near n k -ℤ n))
near-high n (pos k) h =
    let z = pos k *ℤ near n (pos k) -ℤ n in
    neg_nat_abs (pos 2 *ℤ z) {m = k} (omega (arith, near-error n (pos k) h, nat_abs_product (pos 2) z))
near-high n (negsuc k) h = absurd h.le

-- |n| ≤ m k gives |near n k| ≤ m
pub near-size : (n k : ℤ) (m : ℕ) → pos 1 ≤ℤ k → nat_abs n ≤ m * nat_abs k → nat_abs (near n k) ≤ m
near-size n k m h b =
    -- 2k |q| ≤ 2 |n| + k ≤ (2m + 1) k, so |q| ≤ m
    let i = near-is n k h in
    let l : nat_abs k * nat_abs (near n k) < nat_abs k * suc m = omega (arith, i.low, positive h) in
    omega (arith, lt_of_mul-lt-mul_left (nat_abs k) l)

pub near_le : (n k : ℤ) → pos 1 ≤ℤ k → nat_abs (near n k) ≤ nat_abs n
near_le n k h = near-size n k (nat_abs n) h (grow (nat_abs n) k h)
  where
    grow : (m : ℕ) (k : ℤ) → pos 1 ≤ℤ k → m ≤ m * nat_abs k
    grow m (pos k) h = omega (arith, mul-le-mul_left {m = 1} {n = k} m (omega (arith, ≤-parts h)))
    grow m (negsuc k) h = absurd h.le

-- ---- as the machine divides: half of k, rounded down, is added to the size
half_up_divided : (n k : ℕ) → (n + k / 2) / k ≡ half_up n k
half_up_divided n k = sym (ap (λ (m : ℕ). m / k) (mul-add-div {m = 2} (omega arith) n k)) ∙ div-div-eq-div-mul (2 * n + k) 2 k

pub near_above : (n k : ℤ) → pos 1 ≤ℤ k → pos 0 ≤ℤ n → quot_z (n +ℤ quot_z k (pos 2)) k ≡ near n k
unfolding near
near_above (pos n) (pos k) h g = ap pos (half_up_divided n k)
near_above (negsuc n) k h g = absurd g.le
near_above (pos n) (negsuc k) h g = absurd h.le

pub near_below : (n k : ℤ) → pos 1 ≤ℤ k → n <ℤ pos 0 → quot_z (n -ℤ quot_z k (pos 2)) k ≡ near n k
unfolding near
near_below (negsuc n) (pos k) h g =
    let half = pos (k / 2) in
    let e = same (negsuc n -ℤ half) (negsuc (n + k / 2)) (omega (arith, (sum (negsuc n) (neg_ℤ half)).is, (opposite half).is)) in
    ap (λ (z : ℤ). quot_z z (pos k)) e
    ∙ ap (λ (m : ℕ). neg_ℤ (pos (m / k))) (sym (suc-add n (k / 2)))
    ∙ ap (λ (m : ℕ). neg_ℤ (pos m)) (half_up_divided (suc n) k)
near_below (pos n) k h g = absurd (omega (arith, zs))
near_below (negsuc n) (negsuc k) h g = absurd h.le
