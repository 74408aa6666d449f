-- Laws of numbers in three parts. One carries every comparison (`carried`): the floor of a number over 10^12 is its
-- high part and what is carried up to it, and a number is at least 0 exactly if its floor is.
use Rattle.std.specs.Prelude.{◌≡◌, refl, Bool, true, false, [], ◌∷◌, ◌≤◌, ℤ, pos, negsuc, nat_abs, ◌+ℤ◌, ◌-ℤ◌, ◌*ℤ◌, ◌≤ℤ◌, ◌<ℤ◌}
use Rattle.std.proofs.Common.{sym, ap, ◌∙◌, arith, div-le_self}
use Rattle.std.specs.Int.Signed.{quot_z, rem_z, le_z, lt_z_yes, clash_ℤ}
use Rattle.rounding.specs.laws.Order.{zs, nat_abs_le, le_z_true, le_z_false, nonneg_minus}
use Rattle.rounding.specs.laws.Ring.{num, ◌⊕◌, ◌⊖◌, ◌⊗◌, ring, v0, v1, v2, v3, v4, v5, v6, v7, v8}
use Rattle.rounding.specs.laws.Cert.{leq, less, lit, ◌⊞◌, ◌⊠◌, certify, certify-<}
use Rattle.rounding.specs.Near.{floor_z}
use Rattle.rounding.specs.laws.Floor.{Floor, floor-is, quot_rem, rem_small}
use Rattle.besselian_rows.specs.Wide.{value, number, not_negative}
use Rattle.besselian_rows.specs.declared.squares.Wide.{Wide}

abbrev million : ℤ
million = pos 1000000

-- a test is the same as another if each gives the other
same_test : (a b c d : ℤ) → (a ≤ℤ b → c ≤ℤ d) → (b <ℤ a → d <ℤ c) → le_z a b ≡ le_z c d
same_test a b c d up down = go (le_z a b) refl (le_z c d) refl
  where
    go : (s : Bool) → le_z a b ≡ s → (t : Bool) → le_z c d ≡ t → le_z a b ≡ le_z c d
    go true e true f = e ∙ sym f
    go false e false f = e ∙ sym f
    go true e false f = absurd (clash_ℤ (le_z_false c d f) (up (le_z_true a b e)))
    go false e true f = absurd (clash_ℤ (down (le_z_false a b e)) (le_z_true c d f))

pub floor_size : (n : ℤ) → nat_abs (floor_z n million) ≤ nat_abs n
floor_size (pos n) = div-le_self n 1000000
floor_size (negsuc n) = omega (arith, div-le_self n 1000000)

-- carried up
pub carried : (high mid low : ℤ) → le_z (pos 0) (high +ℤ floor_z (mid +ℤ floor_z low million) million) ≡ not_negative high mid low
unfolding not_negative
carried high mid low = same_test (pos 0) (high +ℤ b) (pos 0) (value high mid low) up down
  where
    b : ℤ
    b = floor_z (mid +ℤ floor_z low million) million

    fa : Floor low million (floor_z low million)
    fa = floor-is low million (omega (arith, zs))

    fb : Floor (mid +ℤ floor_z low million) million (floor_z (mid +ℤ floor_z low million) million)
    fb = floor-is (mid +ℤ floor_z low million) million (omega (arith, zs))

    up : pos 0 ≤ℤ (high +ℤ floor_z (mid +ℤ floor_z low million) million) → pos 0 ≤ℤ value high mid low
    up h =
        certify 0 (high ∷ mid ∷ low ∷ floor_z low million ∷ floor_z (mid +ℤ floor_z low million) million ∷ [])
        (num 0) (v0 ⊗ num 1000000000000 ⊕ v1 ⊗ num 1000000 ⊕ v2)
        (leq (num 1000000 ⊗ v3) v2 fa.low ⊞ lit 1000000 ⊠ leq (num 1000000 ⊗ v4) (v1 ⊕ v3) fb.low
        ⊞ lit 1000000000000 ⊠ leq (num 0) (v0 ⊕ v4) h) tt

    down : (high +ℤ floor_z (mid +ℤ floor_z low million) million) <ℤ pos 0 → value high mid low <ℤ pos 0
    down h =
        certify-< 0 (high ∷ mid ∷ low ∷ floor_z low million ∷ floor_z (mid +ℤ floor_z low million) million ∷ [])
        (v0 ⊗ num 1000000000000 ⊕ v1 ⊗ num 1000000 ⊕ v2) (num 0)
        (less v2 (num 1000000 ⊗ v3 ⊕ num 1000000) fa.high
        ⊞ lit 1000000 ⊠ less (v1 ⊕ v3) (num 1000000 ⊗ v4 ⊕ num 1000000) fb.high
        ⊞ lit 1000000000000 ⊠ less (v0 ⊕ v4) (num 0) h) tt

pub rem_size : (n : ℤ) → nat_abs (rem_z n million) ≤ 999999
rem_size n =
    let s = rem_small n million (lt_z_yes tt) in
    nat_abs_le (rem_z n million) {m = 999999} (omega (arith, zs, s.0)) (omega (arith, zs, s.1))

-- (10^6 h + l)²
pub square-is : (n : ℤ)
    → value (quot_z n million *ℤ quot_z n million) (pos 2 *ℤ quot_z n million *ℤ rem_z n million) (rem_z n million *ℤ rem_z n million) ≡ n *ℤ n
square-is n =
    ring (quot_z n million ∷ rem_z n million ∷ [])
    (v0 ⊗ v0 ⊗ num 1000000000000 ⊕ num 2 ⊗ v0 ⊗ v1 ⊗ num 1000000 ⊕ v1 ⊗ v1)
    ((num 1000000 ⊗ v0 ⊕ v1) ⊗ (num 1000000 ⊗ v0 ⊕ v1)) tt
    ∙ ap (λ (z : ℤ). z *ℤ z) (quot_rem n million)

pub value_same : {a b c d e f : ℤ} → a ≡ d → b ≡ e → c ≡ f → value a b c ≡ value d e f
value_same p q r = rw (p, q, r) refl

pub not_negative-same : {a b c d e f : ℤ} → a ≡ d → b ≡ e → c ≡ f → not_negative a b c ≡ not_negative d e f
not_negative-same p q r = rw (p, q, r) refl

-- the parts of a difference
pub difference : (a b : Wide) → not_negative (b.high -ℤ a.high) (b.mid -ℤ a.mid) (b.low -ℤ a.low) ≡ le_z (number a) (number b)
unfolding not_negative
difference a b =
    ap (λ (z : ℤ). le_z (pos 0) z) same
    ∙ same_test (pos 0) (number b -ℤ number a) (number a) (number b) nonneg_minus smaller
  where
    same : value (b.high -ℤ a.high) (b.mid -ℤ a.mid) (b.low -ℤ a.low) ≡ number b -ℤ number a
    same =
        ring (a.high ∷ a.mid ∷ a.low ∷ b.high ∷ b.mid ∷ b.low ∷ [])
        ((v3 ⊖ v0) ⊗ num 1000000000000 ⊕ (v4 ⊖ v1) ⊗ num 1000000 ⊕ (v5 ⊖ v2))
        ((v3 ⊗ num 1000000000000 ⊕ v4 ⊗ num 1000000 ⊕ v5) ⊖ (v0 ⊗ num 1000000000000 ⊕ v1 ⊗ num 1000000 ⊕ v2)) tt

    smaller : (number b -ℤ number a) <ℤ pos 0 → number b <ℤ number a
    smaller h = certify-< 0 (number a ∷ number b ∷ []) v1 v0 (less (v1 ⊖ v0) (num 0) h) tt

-- the parts of a sum, and of a number taken several times
pub value-sum : (a b c : Wide)
    → value (a.high +ℤ b.high +ℤ c.high) (a.mid +ℤ b.mid +ℤ c.mid) (a.low +ℤ b.low +ℤ c.low) ≡ number a +ℤ number b +ℤ number c
value-sum a b c =
    ring (a.high ∷ a.mid ∷ a.low ∷ b.high ∷ b.mid ∷ b.low ∷ c.high ∷ c.mid ∷ c.low ∷ [])
    ((v0 ⊕ v3 ⊕ v6) ⊗ num 1000000000000 ⊕ (v1 ⊕ v4 ⊕ v7) ⊗ num 1000000 ⊕ (v2 ⊕ v5 ⊕ v8))
    ((v0 ⊗ num 1000000000000 ⊕ v1 ⊗ num 1000000 ⊕ v2) ⊕ (v3 ⊗ num 1000000000000 ⊕ v4 ⊗ num 1000000 ⊕ v5)
    ⊕ (v6 ⊗ num 1000000000000 ⊕ v7 ⊗ num 1000000 ⊕ v8)) tt

pub value-times : (k : ℤ) (a : Wide) → value (k *ℤ a.high) (k *ℤ a.mid) (k *ℤ a.low) ≡ k *ℤ number a
value-times k a =
    ring (a.high ∷ a.mid ∷ a.low ∷ k ∷ [])
    ((v3 ⊗ v0) ⊗ num 1000000000000 ⊕ (v3 ⊗ v1) ⊗ num 1000000 ⊕ v3 ⊗ v2)
    (v3 ⊗ (v0 ⊗ num 1000000000000 ⊕ v1 ⊗ num 1000000 ⊕ v2)) tt
