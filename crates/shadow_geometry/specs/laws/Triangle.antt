-- The triangle's inequality by squares: a point at most a away, moved by at most δ, is at most a + δ away.
use Rattle.std.specs.Prelude.{[], ◌∷◌, ℕ, ◌≤◌, ℤ, pos, nat_abs, ◌+ℤ◌, ◌-ℤ◌, ◌*ℤ◌, ◌≤ℤ◌}
use Rattle.std.specs.Int.Signed.{clash_ℤ}
use Rattle.rounding.specs.laws.Order.{by_contra, le_nat_abs, neg_nat_abs}
use Rattle.rounding.specs.laws.Ring.{num, ◌⊕◌, ◌⊖◌, ◌⊗◌, opp, v0, v1, v2, v3, v4, v5}
use Rattle.rounding.specs.laws.Cert.{leq, less, lit, sq, ◌⊞◌, ◌⊠◌, certify, certify-<}
use Rattle.shadow_geometry.specs.Shadow.{◌²}

-- x² ≤ y² gives x ≤ y
pub le_of_squares : (x y : ℤ) → pos 0 ≤ℤ y → (x ²) ≤ℤ (y ²) → x ≤ℤ y
le_of_squares x y h k =
    by_contra x y
    (λ g. clash_ℤ (certify-< 0 (x ∷ y ∷ []) (v1 ⊗ v1) (v0 ⊗ v0)
    (sq (v0 ⊖ v1 ⊖ num 1) ⊞ lit 2 ⊠ leq (num 0) v1 h ⊠ (less v1 v0 g ⊞ lit 1) ⊞ lit 2 ⊠ less v1 v0 g) tt) k)

-- |z| ≤ n gives z² ≤ n²
pub squares_of_size : (z : ℤ) (n : ℕ) → nat_abs z ≤ n → (z ²) ≤ℤ (pos n ²)
squares_of_size z n h =
    certify 0 (z ∷ pos n ∷ []) (v0 ⊗ v0) (v1 ⊗ v1) (leq v0 v1 (le_nat_abs z h) ⊠ leq (opp v1) v0 (neg_nat_abs z h)) tt

-- p c + q d ≤ a δ: a²δ² - (p c + q d)² = (a² - p² - q²) δ² + (p² + q²) (δ² - c² - d²) + (p d - q c)²
cauchy : (p q c d a δ : ℤ) → pos 0 ≤ℤ a → pos 0 ≤ℤ δ → (p ² +ℤ q ²) ≤ℤ (a ²) → (c ² +ℤ d ²) ≤ℤ (δ ²) → (p *ℤ c +ℤ q *ℤ d) ≤ℤ (a *ℤ δ)
cauchy p q c d a δ ha hδ h k =
    let e = p ∷ q ∷ c ∷ d ∷ a ∷ δ ∷ [] in
    let s = v0 ⊗ v2 ⊕ v1 ⊗ v3 in
    le_of_squares (p *ℤ c +ℤ q *ℤ d) (a *ℤ δ)
    (certify 0 e (num 0) (v4 ⊗ v5) (leq (num 0) v4 ha ⊠ leq (num 0) v5 hδ) tt)
    (certify 0 e (s ⊗ s) (v4 ⊗ v5 ⊗ (v4 ⊗ v5))
    (leq (v0 ⊗ v0 ⊕ v1 ⊗ v1) (v4 ⊗ v4) h ⊠ sq v5 ⊞ (sq v0 ⊞ sq v1) ⊠ leq (v2 ⊗ v2 ⊕ v3 ⊗ v3) (v5 ⊗ v5) k ⊞ sq (v0 ⊗ v3 ⊖ v1 ⊗ v2)) tt)

-- (p, q) is at most a away, and (x, y) at most δ from it
pub triangle : (p q x y a δ : ℤ) → pos 0 ≤ℤ a → pos 0 ≤ℤ δ → (p ² +ℤ q ²) ≤ℤ (a ²) → ((x -ℤ p) ² +ℤ (y -ℤ q) ²) ≤ℤ (δ ²) → (x ² +ℤ y ²) ≤ℤ ((a +ℤ δ) ²)
triangle p q x y a δ ha hδ h k =
    let e = p ∷ q ∷ x ∷ y ∷ a ∷ δ ∷ [] in
    let c = v2 ⊖ v0 in
    let d = v3 ⊖ v1 in
    certify 0 e (v2 ⊗ v2 ⊕ v3 ⊗ v3) ((v4 ⊕ v5) ⊗ (v4 ⊕ v5))
    (leq (v0 ⊗ v0 ⊕ v1 ⊗ v1) (v4 ⊗ v4) h ⊞ leq (c ⊗ c ⊕ d ⊗ d) (v5 ⊗ v5) k ⊞ lit 2 ⊠ leq (v0 ⊗ c ⊕ v1 ⊗ d) (v4 ⊗ v5)
    (cauchy p q (x -ℤ p) (y -ℤ q) a δ ha hδ h k)) tt
