-- Laws of rounding down: floor_z a b is the one q with b q ≤ a < b q + b, and how the machine's quotient and remainder,
-- which are rounded toward zero, give it.
use Rattle.std.specs.Prelude.{◌≡◌, List, [], ◌∷◌, ℕ, suc, ◌*◌, ◌/◌, ◌%◌, ℤ, pos, negsuc, neg_ℤ, ◌+ℤ◌, ◌-ℤ◌, ◌*ℤ◌, ◌≤ℤ◌, ◌<ℤ◌}
use Rattle.std.proofs.Common.{sym, ap, arith, mod-lt}
use Rattle.std.proofs.Math.Nat.{div-add-mod}
use Rattle.std.specs.Int.Signed.{quot_z, rem_z, clash_ℤ}
use Rattle.rounding.specs.Parts.{sum, product, opposite, same}
use Rattle.rounding.specs.laws.Order.{zs, <-parts, by_contra, <ℤ-≤, ≤ℤ_antisym}
use Rattle.rounding.specs.laws.Ring.{num, ◌⊕◌, ◌⊖◌, ◌⊗◌, opp, v0, v1, v2, v3}
use Rattle.rounding.specs.laws.Cert.{leq, less, equ, lit, ◌⊞◌, ◌⊠◌, certify, certify-<}
use Rattle.rounding.specs.Near.{floor_z}

-- b q ≤ a < b q + b says that q is a / b rounded down
pub record Floor (a b q : ℤ) : Type 0 where
  pub low : (b *ℤ q) ≤ℤ a
  pub high : a <ℤ (b *ℤ q +ℤ b)

pub floor-is : (a b : ℤ) → pos 0 <ℤ b → Floor a b (floor_z a b)
floor-is (pos a) (pos b) h =
    let q = a / b in
    let e = div-add-mod a b in
    let l = mod-lt a {m = b} (omega (arith, <-parts h)) in
    record { low = omega (arith, zs, e, l); high = omega (arith, zs, e, l) }
floor-is (negsuc a) (pos b) h =
    let e = div-add-mod a b in
    let l = mod-lt a {m = b} (omega (arith, <-parts h)) in
    record {
      low = omega (arith, zs, e, l, (product (pos b) (negsuc (a / b))).is);
      high = omega (arith, zs, e, l, (product (pos b) (negsuc (a / b))).is, (sum (pos b *ℤ negsuc (a / b)) (pos b)).is);
    }
floor-is (pos a) (negsuc b) h = absurd h.lt
floor-is (negsuc a) (negsuc b) h = absurd h.lt

-- there is one such q
pub floor_unique : {a b q r : ℤ} → pos 0 <ℤ b → Floor a b q → Floor a b r → q ≡ r
floor_unique {a} {b} {q} {r} h f g = ≤ℤ_antisym (below q r f g) (below r q g f)
  where
    below : (q r : ℤ) → Floor a b q → Floor a b r → q ≤ℤ r
    below q r f g =
        by_contra q r
        (λ k. clash_ℤ g.high (certify 0 (a ∷ b ∷ q ∷ r ∷ []) (v1 ⊗ v3 ⊕ v1) v0 (leq (v1 ⊗ v2) v0 f.low ⊞ leq (num 0) v1 (<ℤ-≤ h) ⊠ (less v3 v2 k)) tt))

-- the quotient and the remainder
pub quot_rem : (a b : ℤ) → b *ℤ quot_z a b +ℤ rem_z a b ≡ a
quot_rem (pos a) (pos b) = ap pos (div-add-mod a b)
quot_rem (pos a) (negsuc b) =
    let q = neg_ℤ (pos (a / suc b)) in
    let z = (opposite (pos (a / suc b))).is in
    same (negsuc b *ℤ q +ℤ pos (a % suc b)) (pos a)
    (omega (arith, (sum (negsuc b *ℤ q) (pos (a % suc b))).is, (product (negsuc b) q).is, div-add-mod a (suc b), ap (λ (t : ℕ). suc b * t) z))
quot_rem (negsuc a) (pos b) =
    let q = neg_ℤ (pos (suc a / b)) in
    let r = neg_ℤ (pos (suc a % b)) in
    same (pos b *ℤ q +ℤ r) (negsuc a)
    (omega (
      arith,
      (sum (pos b *ℤ q) r).is,
      (product (pos b) q).is,
      div-add-mod (suc a) b,
      ap (λ (t : ℕ). b * t) (opposite (pos (suc a / b))).is,
      (opposite (pos (suc a % b))).is,
    ))
quot_rem (negsuc a) (negsuc b) =
    let r = neg_ℤ (pos (suc a % suc b)) in
    same (negsuc b *ℤ pos (suc a / suc b) +ℤ r) (negsuc a)
    (omega (
      arith,
      (sum (negsuc b *ℤ pos (suc a / suc b)) r).is,
      (product (negsuc b) (pos (suc a / suc b))).is,
      div-add-mod (suc a) (suc b),
      (opposite (pos (suc a % suc b))).is,
    ))

pub rem_small : (a b : ℤ) → pos 0 <ℤ b → (neg_ℤ b <ℤ rem_z a b) × (rem_z a b <ℤ b)
rem_small (pos a) (pos b) h =
    let l = mod-lt a {m = b} (omega (arith, <-parts h)) in
    (omega (arith, zs, l, (opposite (pos b)).is), omega (arith, zs, l))
rem_small (negsuc a) (pos b) h =
    let l = mod-lt (suc a) {m = b} (omega (arith, <-parts h)) in
    let z = (opposite (pos (suc a % b))).is in
    (omega (arith, zs, l, (opposite (pos b)).is, z), omega (arith, zs, l, z))
rem_small (pos a) (negsuc b) h = absurd h.lt
rem_small (negsuc a) (negsuc b) h = absurd h.lt

-- the two answers of the code, by the remainder's sign. In these, 0 is a, 1 is b, 2 is the quotient and 3 the remainder
module _ (a b : ℤ) (h : pos 0 <ℤ b) where
  abbrev e : List ℤ
  e = a ∷ b ∷ quot_z a b ∷ rem_z a b ∷ []

  pub floor-same : pos 0 ≤ℤ rem_z a b → quot_z a b ≡ floor_z a b
  floor-same k =
      floor_unique h
      (record {
        low = certify 0 e (v1 ⊗ v2) v0 (equ (v1 ⊗ v2 ⊕ v3) v0 (quot_rem a b) ⊞ leq (num 0) v3 k) tt;
        high = certify-< 0 e v0 (v1 ⊗ v2 ⊕ v1) (equ v0 (v1 ⊗ v2 ⊕ v3) (sym (quot_rem a b)) ⊞ less v3 v1 (rem_small a b h).1) tt;
      })
      (floor-is a b h)

  pub floor-less : rem_z a b <ℤ pos 0 → quot_z a b -ℤ pos 1 ≡ floor_z a b
  floor-less k =
      floor_unique h
      (record {
        low = certify 0 e (v1 ⊗ (v2 ⊖ num 1)) v0 (equ (v1 ⊗ v2 ⊕ v3) v0 (quot_rem a b) ⊞ less (opp v1) v3 (rem_small a b h).0 ⊞ lit 1) tt;
        high = certify-< 0 e v0 (v1 ⊗ (v2 ⊖ num 1) ⊕ v1) (equ v0 (v1 ⊗ v2 ⊕ v3) (sym (quot_rem a b)) ⊞ less v3 (num 0) k) tt;
      })
      (floor-is a b h)
