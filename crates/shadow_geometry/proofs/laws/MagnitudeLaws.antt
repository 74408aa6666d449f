-- What callers use of the magnitude.
--   millionths-neg      0 below 0
--   magnitude_inside, magnitude_else the two cases
--   magnitude-limit     "It never exceeds 1,300,000", where 23 |L2| ≤ 3 L1: then neither L1 - L2 nor L1 is more than 1.3 (L1 + L2)
--   magnitude-within    so within the ranges (L1-above, L2-narrow): L1 is at least 48,860,000 and L2 at most 6,140,000 in size
use Rattle.std.specs.Prelude.{◌≡◌, refl, Bool, true, false, cond, List, [], ◌∷◌, ℕ, ◌≤◌, negsuc, neg_ℤ, nat_abs, ◌+ℤ◌, ◌-ℤ◌, ◌*ℤ◌, ◌≤ℤ◌, ◌<ℤ◌}
use Rattle.std.proofs.Common.{arith, le_refl}
use Rattle.std.proofs.Math.IntN.{ℤ, pos}
use Rattle.std.specs.Int.Signed.{clash_ℤ}
use Rattle.sheet_types.specs.States.{State, inside, outside, unsure}
use Rattle.rounding.specs.Parts.{pos_p, sum, product}
use Rattle.rounding.specs.laws.Order.{zs, by_contra, nat_abs_parts, neg_nat_abs, pos-part}
use Rattle.rounding.specs.laws.Ring.{num, ◌⊕◌, ◌⊖◌, ◌⊗◌, opp, v0, v1, v2, v3}
use Rattle.rounding.specs.laws.Cert.{leq, less, lit, ◌⊞◌, ◌⊠◌, certify, certify-<}
use Rattle.rounding.specs.Near.{floor_z}
use Rattle.rounding.specs.laws.Floor.{floor-is}
use Rattle.rounding.specs.Root.{root}
use Rattle.elements.specs.declared.Cone.{Cone}
use Rattle.elements.specs.Sizes.{ConeSizes}
use Rattle.shadow_geometry.specs.Shadow.{Moment, L}
use Rattle.shadow_geometry.specs.Magnitude.{millionths, is_inside, magnitude}
use Rattle.shadow_geometry.specs.laws.Ranges.{MomentSizes}
use Rattle.shadow_geometry.proofs.laws.Sizes.{L-size, L1-positive}

pub millionths-neg : (n d : ℤ) → n <ℤ pos 0 → millionths n d ≡ 0
millionths-neg n d h = go (pos 1000000 *ℤ n) (omega (arith, zs, (product (pos 1000000) n).is))
  where
    go : (z : ℤ) → z <ℤ pos 0 → pos_p (floor_z z d) ≡ 0
    go (pos z) h = absurd (omega (arith, zs))
    go (negsuc z) h = refl

pub magnitude_inside : (L1 L2 M : ℤ) → magnitude inside L1 L2 M ≡ millionths (L1 -ℤ L2) (L1 +ℤ L2)
unfolding magnitude
magnitude_inside L1 L2 M = refl

pub magnitude_else : (w : State) (L1 L2 M : ℤ) → (w ≡ inside → ⊥) → magnitude w L1 L2 M ≡ millionths (L1 -ℤ pos (root (nat_abs M))) (L1 +ℤ L2)
unfolding magnitude
magnitude_else inside L1 L2 M h = absurd (h refl)
magnitude_else outside L1 L2 M h = refl
magnitude_else unsure L1 L2 M h = refl

-- d q ≤ 10^6 n ≤ 1.3·10^6 d
millionths-limit : (n d : ℤ) → pos 0 <ℤ d → (pos 10 *ℤ n) ≤ℤ (pos 13 *ℤ d) → millionths n d ≤ 1300000
millionths-limit n d h k =
    let z = floor_z (pos 1000000 *ℤ n) d in
    let f = floor-is (pos 1000000 *ℤ n) d h in
    pos-part z 1300000
    (by_contra z (pos 1300000)
    (λ g. clash_ℤ
    (certify-< 0 (n ∷ d ∷ z ∷ []) (num 1000000 ⊗ v0) (v1 ⊗ v2)
    (lit 100000 ⊠ leq (num 10 ⊗ v0) (num 13 ⊗ v1) k ⊞ (less (num 0) v1 h ⊞ lit 1) ⊠ less (num 1300000) v2 g ⊞ less (num 0) v1 h) tt)
    f.low))

-- below, 0 is L1, 1 is L2, 2 is the size of L2 and 3 is root(M)
module _ (L1 L2 : ℤ) (above : pos 0 <ℤ L1) (small : (pos 23 *ℤ pos (nat_abs L2)) ≤ℤ (pos 3 *ℤ L1)) where
  low : neg_ℤ (pos (nat_abs L2)) ≤ℤ L2
  low = neg_nat_abs L2 (le_refl (nat_abs L2))

  pub sum-positive : pos 0 <ℤ (L1 +ℤ L2)
  sum-positive = omega (arith, zs, (sum L1 L2).is, (product (pos 3) L1).is, nat_abs_parts L2)

  pub magnitude-limit : (w : State) (M : ℤ) → magnitude w L1 L2 M ≤ 1300000
  unfolding magnitude
  magnitude-limit w M = go (is_inside w)
    where
      r : ℤ
      r = pos (root (nat_abs M))

      env : List ℤ
      env = L1 ∷ L2 ∷ pos (nat_abs L2) ∷ r ∷ []

      go : (t : Bool) → cond t (millionths (L1 -ℤ L2) (L1 +ℤ L2)) (millionths (L1 -ℤ r) (L1 +ℤ L2)) ≤ 1300000
      go true =
          millionths-limit (L1 -ℤ L2) (L1 +ℤ L2) sum-positive
          (certify 0 env (num 10 ⊗ (v0 ⊖ v1)) (num 13 ⊗ (v0 ⊕ v1)) (leq (num 23 ⊗ v2) (num 3 ⊗ v0) small ⊞ lit 23 ⊠ leq (opp v2) v1 low) tt)
      go false =
          millionths-limit (L1 -ℤ r) (L1 +ℤ L2) sum-positive
          (certify 0 env (num 10 ⊗ (v0 ⊖ v3)) (num 13 ⊗ (v0 ⊕ v1))
          (leq (num 23 ⊗ v2) (num 3 ⊗ v0) small ⊞ lit 13 ⊠ leq (opp v2) v1 low ⊞ lit 10 ⊠
          (leq (num 0) v2 (omega (arith, zs)) ⊞ leq (num 0) v3 (omega (arith, zs)))) tt)

-- within the ranges: of a penumbra's cone and of the other
module _ (m : Moment) (h : MomentSizes m) (k1 k2 : Cone) {c : ℕ} (h1 : ConeSizes c k1) (low : pos 50000000 ≤ℤ k1.l.c0) (h2 : ConeSizes 5000000 k2) where
  pub L1-above : pos 0 <ℤ L m k1
  L1-above = omega (arith, zs, L1-positive m h k1 h1 low)

  pub L2-narrow : (pos 23 *ℤ pos (nat_abs (L m k2))) ≤ℤ (pos 3 *ℤ L m k1)
  L2-narrow = omega (arith, zs, L1-positive m h k1 h1 low, L-size m h k2 h2, (product (pos 3) (L m k1)).is)

  pub magnitude-within : (w : State) (M : ℤ) → magnitude w (L m k1) (L m k2) M ≤ 1300000
  magnitude-within w M = magnitude-limit (L m k1) (L m k2) L1-above L2-narrow w M
