-- A distance and an edge over a common factor: the factor may be left out (`unscaled-less`, `unscaled-least`), and a
-- distance that reaches an edge reaches a smaller one (`least_mono`).
use Rattle.std.proofs.Common.{subst}
use Rattle.std.specs.Prelude.{[], ◌∷◌, ℤ, pos, ◌*ℤ◌, ◌≤ℤ◌}
use Rattle.std.specs.Int.Signed.{clash_ℤ}
use Rattle.rounding.specs.laws.Order.{by_contra, by_contra-<}
use Rattle.rounding.specs.laws.Ring.{num, ◌⊗◌, ring, v0, v1, v2}
use Rattle.rounding.specs.laws.Cert.{leq, less, lit, sq, ◌⊞◌, ◌⊠◌, certify, certify-<}
use Rattle.shadow_geometry.specs.Shadow.{◌²}
use Rattle.shadow_geometry.specs.Exact.{Less, AtLeast}

-- ---- a distance and an edge, both times k
module _ (k s b : ℤ) (some : pos 1 ≤ℤ k) where
  sign_of : pos 0 ≤ℤ (b *ℤ k) → pos 0 ≤ℤ b
  sign_of h =
      by_contra (pos 0) b
      (λ g. clash_ℤ (certify-< 0 (k ∷ b ∷ []) (v1 ⊗ v0) (num 0) ((leq (num 1) v0 some ⊞ lit 1) ⊠ less v1 (num 0) g ⊞ leq (num 1) v0 some) tt) h)

  -- k²·x ≤ k²·y gives x ≤ y
  unsquared : (x y : ℤ) → (x *ℤ (k *ℤ k)) ≤ℤ (y *ℤ (k *ℤ k)) → x ≤ℤ y
  unsquared x y h =
      by_contra x y
      (λ g. clash_ℤ (certify-< 0 (k ∷ x ∷ y ∷ []) (v2 ⊗ (v0 ⊗ v0)) (v1 ⊗ (v0 ⊗ v0))
      (sq v0 ⊠ less v2 v1 g ⊞ leq (num 1) v0 some ⊠ leq (num 1) v0 some ⊞ lit 2 ⊠ leq (num 1) v0 some) tt) h)

  pub unscaled-less : Less (s *ℤ (k *ℤ k)) (b *ℤ k) → Less s b
  unscaled-less h =
      record {
        sign = sign_of h.sign;
        square = by_contra-< s (b ²)
            (λ g. clash_ℤ h.square (certify 0 (k ∷ s ∷ b ∷ []) (v2 ⊗ v0 ⊗ (v2 ⊗ v0)) (v1 ⊗ (v0 ⊗ v0)) (sq v0 ⊠ leq (v2 ⊗ v2) v1 g) tt));
      }

  pub unscaled-least : AtLeast (s *ℤ (k *ℤ k)) (b *ℤ k) → AtLeast s b
  unscaled-least h =
      record {
        square = λ l.
            unsquared (b ²) s
            (subst (λ (y : ℤ). y ≤ℤ (s *ℤ (k *ℤ k))) (ring (k ∷ b ∷ []) (v1 ⊗ v0 ⊗ (v1 ⊗ v0)) (v1 ⊗ v1 ⊗ (v0 ⊗ v0)) tt)
            (h.square (certify 0 (k ∷ b ∷ []) (num 0) (v1 ⊗ v0) (leq (num 0) v1 l ⊠ (leq (num 1) v0 some ⊞ lit 1)) tt)));
      }

-- a smaller edge
pub least_mono : (s b c : ℤ) → b ≤ℤ c → AtLeast s c → AtLeast s b
least_mono s b c h l =
    let e = s ∷ b ∷ c ∷ [] in
    record {
      square = λ z.
          certify 0 e (v1 ⊗ v1) v0
          (leq (v2 ⊗ v2) v0 (l.square (certify 0 e (num 0) v2 (leq (num 0) v1 z ⊞ leq v1 v2 h) tt)) ⊞ leq v1 v2 h ⊠ (leq v1 v2 h ⊞ lit 2 ⊠ leq (num 0) v1 z)) tt;
    }
