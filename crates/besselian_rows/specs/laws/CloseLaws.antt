-- How closeness to A/√B is shown: √B lies in a bracket of whole numbers, so a linear bound is enough.
--   Bracket D c B     √B is within c of D:  (D − c)² ≤ B ≤ (D + c)²
--   close             |D v − A| ≤ X and X + c (|v| + e) ≤ e D give Close e v A B
use Rattle.std.specs.Prelude.{◌≡◌, refl, [], ◌∷◌, ℕ, zero, suc, ◌+◌, ◌*◌, ◌≤◌, ◌<◌, ℤ, pos, negsuc, neg_ℤ, nat_abs, ◌+ℤ◌, ◌-ℤ◌, ◌*ℤ◌, ◌≤ℤ◌}
use Rattle.std.proofs.Common.{arith, mul-le-mul, mul-le-mul_left}
use Rattle.rounding.specs.Parts.{sum, opposite}
use Rattle.rounding.specs.laws.Order.{zs, le_nat_abs, neg_nat_abs}
use Rattle.rounding.specs.laws.Ring.{num, ◌⊕◌, ◌⊖◌, ◌⊗◌, opp, ring, v0, v1, v2, v3, v4, v5, v6}
use Rattle.rounding.specs.Root.{IsRoot}
use Rattle.rounding.specs.laws.Cert.{leq, lit, sq, ◌⊞◌, ◌⊠◌, certify}
use Rattle.besselian_rows.specs.Exact.{◌², signed, Close}
use Rattle.besselian_rows.specs.laws.CloseMeaning.{zero-≤}

pub record Bracket (D c : ℕ) (B : ℤ) : Type 0 where
  pub small : c < D
  pub low : ((pos D -ℤ pos c) ²) ≤ℤ B
  pub high : B ≤ℤ ((pos D +ℤ pos c) ²)

-- A ≤ v √B, from A ≤ v l and A ≤ v h with 0 ≤ l ≤ √B ≤ h
below : (A v B l h : ℤ) → pos 0 ≤ℤ l → pos 0 ≤ℤ h → (l *ℤ l) ≤ℤ B → B ≤ℤ (h *ℤ h) → A ≤ℤ (v *ℤ l) → A ≤ℤ (v *ℤ h)
    → signed A ≤ℤ (signed v *ℤ B)
below (pos n) (pos m) B l h hl hh lo hi al ah =
    certify 0 (pos n ∷ pos m ∷ B ∷ l ∷ h ∷ []) (v0 ⊗ v0) (v1 ⊗ v1 ⊗ v2)
    (sq v1 ⊠ leq (v3 ⊗ v3) v2 lo ⊞ leq v0 (v1 ⊗ v3) al ⊠ (leq (num 0) v1 (zero-≤ m) ⊠ leq (num 0) v3 hl ⊞ leq (num 0) v0 (zero-≤ n))) tt
below (negsuc n) (pos m) B l h hl hh lo hi al ah =
    certify 0 (pos (suc n) ∷ pos m ∷ B ∷ l ∷ h ∷ []) (opp v0 ⊗ v0) (v1 ⊗ v1 ⊗ v2)
    (sq v1 ⊠ leq (v3 ⊗ v3) v2 lo ⊞ sq v1 ⊠ sq v3 ⊞ sq v0) tt
below (pos n) (negsuc m) B l h hl hh lo hi al ah =
    certify 0 (pos n ∷ pos (suc m) ∷ B ∷ l ∷ h ∷ []) (v0 ⊗ v0) (opp v1 ⊗ v1 ⊗ v2)
    (sq v1 ⊠ leq v2 (v4 ⊗ v4) hi ⊞ leq (num 0) v0 (zero-≤ n) ⊠ leq v0 (opp v1 ⊗ v4) ah
    ⊞ leq (num 0) v1 (zero-≤ (suc m)) ⊠ leq (num 0) v4 hh ⊠ leq v0 (opp v1 ⊗ v4) ah
    ⊞ lit 2 ⊠ leq (num 0) v0 (zero-≤ n) ⊠ leq (num 0) v1 (zero-≤ (suc m)) ⊠ leq (num 0) v4 hh) tt
below (negsuc n) (negsuc m) B l h hl hh lo hi al ah =
    certify 0 (pos (suc n) ∷ pos (suc m) ∷ B ∷ l ∷ h ∷ []) (opp v0 ⊗ v0) (opp v1 ⊗ v1 ⊗ v2)
    (sq v1 ⊠ leq v2 (v4 ⊗ v4) hi ⊞ leq (opp v0) (opp v1 ⊗ v4) ah ⊠ (leq (num 0) v0 (zero-≤ (suc n)) ⊞ leq (num 0) v1 (zero-≤ (suc m)) ⊠ leq (num 0) v4 hh)) tt

signed-opposite : (a : ℤ) → signed (neg_ℤ a) ≡ neg_ℤ (signed a)
signed-opposite (pos zero) = refl
signed-opposite (pos (suc n)) = ring (pos (suc n) ∷ []) (opp v0 ⊗ v0) (opp (v0 ⊗ v0)) tt
signed-opposite (negsuc n) = ring (pos (suc n) ∷ []) (v0 ⊗ v0) (opp (opp v0 ⊗ v0)) tt

-- v √B ≤ A
above : (A v B l h : ℤ) → pos 0 ≤ℤ l → pos 0 ≤ℤ h → (l *ℤ l) ≤ℤ B → B ≤ℤ (h *ℤ h) → (v *ℤ l) ≤ℤ A → (v *ℤ h) ≤ℤ A
    → (signed v *ℤ B) ≤ℤ signed A
above A v B l h hl hh lo hi al ah =
    let e = A ∷ v ∷ l ∷ h ∷ [] in
    let u = below (neg_ℤ A) (neg_ℤ v) B l h hl hh lo hi
    (certify 0 e (opp v0) (opp v1 ⊗ v2) (leq (v1 ⊗ v2) v0 al) tt) (certify 0 e (opp v0) (opp v1 ⊗ v3) (leq (v1 ⊗ v3) v0 ah) tt) in
    let w : neg_ℤ (signed A) ≤ℤ (neg_ℤ (signed v) *ℤ B) = rw (signed-opposite A, signed-opposite v) at u in
    certify 0 (signed A ∷ signed v ∷ B ∷ []) (v1 ⊗ v2) v0 (leq (opp v0) (opp v1 ⊗ v2) w) tt

-- D v is within X of A, and D within c of √B
module _ {D c : ℕ} {B : ℤ} (b : Bracket D c B) where
  low-nonneg : pos 0 ≤ℤ (pos D -ℤ pos c)
  low-nonneg = omega (arith, zs, b.small, (sum (pos D) (neg_ℤ (pos c))).is, (opposite (pos c)).is)

  high-nonneg : pos 0 ≤ℤ (pos D +ℤ pos c)
  high-nonneg = omega (arith, zs)

  bracket-some : pos 1 ≤ℤ B
  bracket-some =
      let l : pos 1 ≤ℤ (pos D -ℤ pos c) = omega (arith, zs, b.small, (sum (pos D) (neg_ℤ (pos c))).is, (opposite (pos c)).is) in
      certify 0 (pos D ∷ pos c ∷ B ∷ []) (num 1) v2
      (leq ((v0 ⊖ v1) ⊗ (v0 ⊖ v1)) v2 b.low ⊞ leq (num 1) (v0 ⊖ v1) l ⊠ leq (num 1) (v0 ⊖ v1) l ⊞ lit 2 ⊠ leq (num 1) (v0 ⊖ v1) l) tt

  pub close : (e X : ℕ) (v A : ℤ) → nat_abs (pos D *ℤ v -ℤ A) ≤ X → X + c * (nat_abs v + e) ≤ e * D → Close e v A B
  close e X v A x s =
      let l = pos D -ℤ pos c in
      let h = pos D +ℤ pos c in
      let env = pos D ∷ pos c ∷ v ∷ A ∷ pos e ∷ pos X ∷ pos (nat_abs v) ∷ [] in
      let s' : (pos X +ℤ pos c *ℤ (pos (nat_abs v) +ℤ pos e)) ≤ℤ (pos e *ℤ pos D) = omega (arith, zs) in
      let up : (pos D *ℤ v -ℤ A) ≤ℤ pos X = le_nat_abs (pos D *ℤ v -ℤ A) x in
      let dn : neg_ℤ (pos X) ≤ℤ (pos D *ℤ v -ℤ A) = neg_nat_abs (pos D *ℤ v -ℤ A) x in
      let vu : v ≤ℤ pos (nat_abs v) = le_nat_abs v {m = nat_abs v} (omega arith) in
      let vd : neg_ℤ (pos (nat_abs v)) ≤ℤ v = neg_nat_abs v {m = nat_abs v} (omega arith) in
      let c0 = leq (num 0) v1 (zero-≤ c) in
      let e0 = leq (num 0) v4 (zero-≤ e) in
      let S = leq (v5 ⊕ v1 ⊗ (v6 ⊕ v4)) (v4 ⊗ v0) s' in
      let U = leq (v0 ⊗ v2 ⊖ v3) v5 up in
      let N = leq (opp v5) (v0 ⊗ v2 ⊖ v3) dn in
      record {
        some = bracket-some;
        low = above A (v -ℤ pos e) B l h low-nonneg high-nonneg b.low b.high
            (certify 0 env ((v2 ⊖ v4) ⊗ (v0 ⊖ v1)) v3 (S ⊞ U ⊞ c0 ⊠ leq (opp v6) v2 vd) tt)
            (certify 0 env ((v2 ⊖ v4) ⊗ (v0 ⊕ v1)) v3 (S ⊞ U ⊞ c0 ⊠ leq v2 v6 vu ⊞ lit 2 ⊠ c0 ⊠ e0) tt);
        high = below A (v +ℤ pos e) B l h low-nonneg high-nonneg b.low b.high
            (certify 0 env v3 ((v2 ⊕ v4) ⊗ (v0 ⊖ v1)) (S ⊞ N ⊞ c0 ⊠ leq v2 v6 vu) tt)
            (certify 0 env v3 ((v2 ⊕ v4) ⊗ (v0 ⊕ v1)) (S ⊞ N ⊞ c0 ⊠ leq (opp v6) v2 vd ⊞ lit 2 ⊠ c0 ⊠ e0) tt);
      }

-- a number within 8,000,000 r of 10^6 m, r the root of m: its root is within 5,000 of 1000 r
pub root_bracket : (B : ℤ) (m r : ℕ) → IsRoot m r → 13 ≤ r → nat_abs (B -ℤ pos (1000000 * m)) ≤ 8000000 * r → Bracket (1000 * r) 5000 B
root_bracket B m r h some near =
    let e = pos r ∷ pos m ∷ B ∷ [] in
    let lo : (pos r *ℤ pos r) ≤ℤ pos m = omega (arith, zs, h.low) in
    let hi : pos m ≤ℤ (pos r *ℤ pos r +ℤ pos 2 *ℤ pos r) = omega (arith, zs, h.high) in
    let up : (B -ℤ pos (1000000 * m)) ≤ℤ pos (8000000 * r) = le_nat_abs (B -ℤ pos (1000000 * m)) near in
    let dn : neg_ℤ (pos (8000000 * r)) ≤ℤ (B -ℤ pos (1000000 * m)) = neg_nat_abs (B -ℤ pos (1000000 * m)) near in
    let some' : pos 13 ≤ℤ pos r = omega (arith, zs) in
    let l = num 1000 ⊗ v0 ⊖ num 5000 in
    let t = num 1000 ⊗ v0 ⊕ num 5000 in
    record {
      small = omega arith;
      low = certify 0 e (l ⊗ l) v2
          (lit 1000000 ⊠ leq (v0 ⊗ v0) v1 lo ⊞ leq (opp (num 8000000 ⊗ v0)) (v2 ⊖ num 1000000 ⊗ v1) dn ⊞ lit 2000000 ⊠ leq (num 13) v0 some' ⊞ lit 1000000) tt;
      high = certify 0 e v2 (t ⊗ t)
          (lit 1000000 ⊠ leq v1 (v0 ⊗ v0 ⊕ num 2 ⊗ v0) hi ⊞ leq (v2 ⊖ num 1000000 ⊗ v1) (num 8000000 ⊗ v0) up ⊞ lit 25000000) tt;
    }

-- √B √C
product_bracket : {D c E d : ℕ} {B C : ℤ} → Bracket D c B → Bracket E d C → D * d + E * c + c * d < D * E
    → Bracket (D * E) (D * d + E * c + c * d) (B *ℤ C)
product_bracket {D} {c} {E} {d} {B} {C} b g s =
    let e = pos D ∷ pos c ∷ pos E ∷ pos d ∷ B ∷ C ∷ [] in
    let k = v0 ⊗ v2 ⊖ (v0 ⊗ v3 ⊕ v2 ⊗ v1 ⊕ v1 ⊗ v3) in
    let t = v0 ⊗ v2 ⊕ (v0 ⊗ v3 ⊕ v2 ⊗ v1 ⊕ v1 ⊗ v3) in
    let l1 = v0 ⊖ v1 in
    let l2 = v2 ⊖ v3 in
    let h1 = v0 ⊕ v1 in
    let h2 = v2 ⊕ v3 in
    let s' : (pos D *ℤ pos d +ℤ pos E *ℤ pos c +ℤ pos c *ℤ pos d) ≤ℤ (pos D *ℤ pos E) = omega (arith, zs) in
    let S = leq (v0 ⊗ v3 ⊕ v2 ⊗ v1 ⊕ v1 ⊗ v3) (v0 ⊗ v2) s' in
    let cd = leq (num 0) v1 (zero-≤ c) ⊠ leq (num 0) v3 (zero-≤ d) in
    let bl = leq (l1 ⊗ l1) v4 b.low in
    let gl = leq (l2 ⊗ l2) v5 g.low in
    record {
      small = s;
      low = certify 0 e (k ⊗ k) (v4 ⊗ v5) (lit 2 ⊠ cd ⊠ (lit 2 ⊠ S ⊞ lit 2 ⊠ cd) ⊞ (bl ⊠ gl ⊞ bl ⊠ sq l2 ⊞ sq l1 ⊠ gl)) tt;
      high = certify 0 e (v4 ⊗ v5) (t ⊗ t) (leq v4 (h1 ⊗ h1) b.high ⊠ sq h2 ⊞ (bl ⊞ sq l1) ⊠ leq v5 (h2 ⊗ h2) g.high) tt;
    }

-- 2·10^9 b ≤ a b and 1.99·10^9 a ≤ a b
width : (a b : ℕ) → 2000000000 ≤ a → 1990000000 ≤ b → 190 * (1000 * a * 5000 + 1000 * b * 5000 + 5000 * 5000) ≤ a * b
width a b ha hb = omega (arith, mul-le-mul_left a hb, mul-le-mul_left b ha)

shut : (a b c v e X m : ℕ) → 190 * c ≤ a * b → v ≤ m → 190 * X + (m + e) ≤ 190 * (e * 1000000)
    → X * (a * b) + c * (v + e) ≤ e * (1000 * a * (1000 * b))
shut a b c v e X m w hv h =
    let g : v + e ≤ m + e = omega arith in
    omega (arith, mul-le-mul {n₁ = 190 * c} {m₁ = v + e} {n₂ = a * b} {m₂ = m + e} w g, mul-le-mul_left (a * b) h)

-- v over √B √C, two long roots
pub product_close : {a b : ℕ} {B C : ℤ} → Bracket (1000 * a) 5000 B → Bracket (1000 * b) 5000 C → 2000000000 ≤ a → 1990000000 ≤ b
    → (e X m : ℕ) (v A : ℤ) → nat_abs (pos (1000 * a * (1000 * b)) *ℤ v -ℤ A) ≤ X * (a * b) → nat_abs v ≤ m
    → 190 * X + (m + e) ≤ 190 * (e * 1000000) → Close e v A (B *ℤ C)
product_close {a} {b} f g ha hb e X m v A err hv h =
    let w = width a b ha hb in
    close (product_bracket f g (omega (arith, w))) e (X * (a * b)) v A err
    (shut a b (1000 * a * 5000 + 1000 * b * 5000 + 5000 * 5000) (nat_abs v) e X m w hv h)
