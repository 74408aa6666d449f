-- The shadow does not depend on how finely the hour is cut: at c·τ of c·n parts it is that at τ of n parts
-- (`moment-same`, `cone-same`), since near of a fraction does not change with a common factor (`near_same`). And 3,600
-- parts of an hour are document 01's seconds (`u-second`, .. `L-second`).
use Rattle.std.specs.Prelude.{◌≡◌, [], ◌∷◌, ℕ, ◌*◌, ◌≤◌, ℤ, ◌+ℤ◌, ◌-ℤ◌, ◌*ℤ◌, ◌≤ℤ◌}
use Rattle.std.proofs.Math.Path.{refl, ap, ap₂}
use Rattle.std.proofs.Common.{◌∙◌, arith, mul-le-mul_left}
use Rattle.std.proofs.Math.IntN.{pos}
use Rattle.std.specs.Int.Signed.{clash_ℤ}
use Rattle.rounding.specs.laws.Order.{zs, by_contra, nat_abs_product}
use Rattle.rounding.specs.laws.Ring.{num, ◌⊗◌, ring, v0, v1, v2}
use Rattle.rounding.specs.laws.Cert.{leq, less, lit, ◌⊞◌, ◌⊠◌, certify, certify-<}
use Rattle.rounding.specs.Near.{near}
use Rattle.rounding.proofs.laws.NearLaws.{near-is, near_unique}
use Rattle.elements.specs.declared.Cubic.{Cubic}
use Rattle.elements.specs.declared.Quadratic.{Quadratic}
use Rattle.elements.specs.declared.Axis.{Axis}
use Rattle.elements.specs.declared.Cone.{Cone}
use Rattle.elements.specs.laws.PolynomialLaws.{quadratic-second, cubic-second}
use Rattle.station.specs.declared.Place.{Place}
use Rattle.shadow_geometry.specs.Shadow.{moment_of, ◌², H, d, q, ξ, η, ζ, u, v, L, M}
use Rattle.contact_times.specs.Parts.{stepBy, quadratic_by, cubic_by, cone_by, moment_by}
use Rattle.contact_times.specs.laws.PartErrors.{still_quadratic, still_cubic}

module _ (c : ℕ) (some : 1 ≤ c) where
  one-c : pos 1 ≤ℤ pos c
  one-c = omega (arith, zs)

  pub near_same : (z : ℤ) (k : ℕ) → pos 1 ≤ℤ pos k → near (z *ℤ pos c) (pos (c * k)) ≡ near z (pos k)
  near_same z k h =
      let q = near z (pos k) in
      let i = near-is z (pos k) h in
      near_unique (z *ℤ pos c) (pos (c * k)) q
      (certify 0 (pos c ∷ pos k ∷ []) (num 1) (v0 ⊗ v1) ((leq (num 1) v0 one-c ⊞ lit 1) ⊠ leq (num 1) v1 h ⊞ leq (num 1) v0 one-c) tt)
      (record {
        low = rw (nat_abs_product z (pos c)) (omega (arith, mul-le-mul_left c i.low));
        high = rw (nat_abs_product z (pos c)) (omega (arith, mul-le-mul_left c i.high, some));
        above = λ l. i.above (by_contra (pos 0) z (λ g.
            clash_ℤ (certify-< 0 (z ∷ pos c ∷ []) (v0 ⊗ v1) (num 0) ((leq (num 1) v1 one-c ⊞ lit 1) ⊠ less v0 (num 0) g ⊞ leq (num 1) v1 one-c) tt) l));
        below = λ l. i.below (by_contra z (pos 0) (λ g.
            clash_ℤ (certify-< 0 (z ∷ pos c ∷ []) (num 0) (v0 ⊗ v1) ((leq (num 1) v1 one-c ⊞ lit 1) ⊠ less (num 0) v0 g ⊞ leq (num 1) v1 one-c) tt) l));
      })

  -- ---- the values at τ n-ths of an hour, c·τ parts where the hour is cut into c·n
  module _ (n : ℕ) (parts : 1 ≤ n) (τ : ℤ) where
    step_same : (p l : ℤ) → stepBy (c * n) (τ *ℤ pos c) p l ≡ stepBy n τ p l
    unfolding stepBy
    step_same p l =
        ap (λ (z : ℤ). near z (pos (c * n)) +ℤ l) (ring (p ∷ τ ∷ pos c ∷ []) (v0 ⊗ (v1 ⊗ v2)) (v0 ⊗ v1 ⊗ v2) tt)
        ∙ ap (λ (z : ℤ). z +ℤ l) (near_same (p *ℤ τ) n (omega (arith, zs)))

    quadratic-same : (q : Quadratic) → quadratic_by (c * n) q (τ *ℤ pos c) ≡ quadratic_by n q τ
    unfolding quadratic_by
    quadratic-same q =
        step_same (stepBy (c * n) (τ *ℤ pos c) q.c2 q.c1) q.c0 ∙ ap (λ (z : ℤ). stepBy n τ z q.c0) (step_same q.c2 q.c1)

    cubic-same : (f : Cubic) → cubic_by (c * n) f (τ *ℤ pos c) ≡ cubic_by n f τ
    unfolding cubic_by
    cubic-same f =
        let a = stepBy (c * n) (τ *ℤ pos c) f.c3 f.c2 in
        let b = stepBy (c * n) (τ *ℤ pos c) a f.c1 in
        step_same b f.c0
        ∙ ap (λ (z : ℤ). stepBy n τ z f.c0) (step_same a f.c1 ∙ ap (λ (z : ℤ). stepBy n τ z f.c1) (step_same f.c3 f.c2))

    -- ---- so the shadow is the same
    pub moment-same : (a : Axis) (p : Place) → moment_by (c * n) a p (τ *ℤ pos c) ≡ moment_by n a p τ
    moment-same a p = rw (cubic-same a.x, cubic-same a.y, quadratic-same a.d, quadratic-same a.mu) refl

    pub cone-same : (k : Cone) → cone_by (c * n) k (τ *ℤ pos c) ≡ cone_by n k τ
    cone-same k = rw (quadratic-same k.l) refl

-- ---- the seconds are 3,600 parts of an hour
module _ (τ : ℤ) where
  module _ (a : Axis) (p : Place) where
    pub H-second : H (moment_by 3600 a p τ) ≡ H (moment_of a p τ)
    unfolding H
    H-second = ap (λ (z : ℤ). z +ℤ p.longitude) (still_quadratic (quadratic_by 3600 a.mu τ) ∙ quadratic-second τ a.mu)

    pub d-second : d (moment_by 3600 a p τ) ≡ d (moment_of a p τ)
    d-second = still_quadratic (quadratic_by 3600 a.d τ) ∙ quadratic-second τ a.d

    ξ-second : ξ (moment_by 3600 a p τ) ≡ ξ (moment_of a p τ)
    unfolding ξ
    ξ-second = rw H-second

    q-second : q (moment_by 3600 a p τ) ≡ q (moment_of a p τ)
    unfolding q
    q-second = rw H-second

    η-second : η (moment_by 3600 a p τ) ≡ η (moment_of a p τ)
    unfolding η
    η-second = rw (q-second, d-second)

    ζ-second : ζ (moment_by 3600 a p τ) ≡ ζ (moment_of a p τ)
    unfolding ζ
    ζ-second = rw (q-second, d-second)

    pub u-second : u (moment_by 3600 a p τ) ≡ u (moment_of a p τ)
    unfolding u
    u-second = ap₂ (λ (y z : ℤ). y -ℤ z) (still_cubic (cubic_by 3600 a.x τ) ∙ cubic-second τ a.x) ξ-second

    pub v-second : v (moment_by 3600 a p τ) ≡ v (moment_of a p τ)
    unfolding v
    v-second = ap₂ (λ (y z : ℤ). y -ℤ z) (still_cubic (cubic_by 3600 a.y τ) ∙ cubic-second τ a.y) η-second

    pub M-second : M (moment_by 3600 a p τ) ≡ M (moment_of a p τ)
    M-second = ap₂ (λ (y z : ℤ). y ² +ℤ z ²) u-second v-second

    pub L-second : (k : Cone) → L (moment_by 3600 a p τ) (cone_by 3600 k τ) ≡ L (moment_of a p τ) k
    unfolding L
    L-second k =
        ap₂ (λ (y z : ℤ). y -ℤ near (z *ℤ k.tanf) (pos 100_000_000)) (still_quadratic (quadratic_by 3600 k.l τ) ∙ quadratic-second τ k.l) ζ-second
