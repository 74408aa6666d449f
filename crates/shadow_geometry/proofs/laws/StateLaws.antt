-- What a state says of the guard g, the radius r and the square s of the distance, and nothing else does:
--   state-means    the state that the rule gives holds what it says
--   state-edge     and it is the only one that does: which s are inside, outside and unsure, to the unit
--   guard-monotone what is sure under a guard is sure, with the same answer, under every smaller one
use Rattle.std.specs.Prelude.{◌≡◌, Bool, ◌&&◌, cond, List, [], ◌∷◌, ℤ, pos, ◌+ℤ◌, ◌-ℤ◌, ◌≤ℤ◌, ◌<ℤ◌}
use Rattle.std.proofs.Math.Path.{refl}
use Rattle.std.proofs.Common.{subst}
use Rattle.std.proofs.Math.Bool.{true, false}
use Rattle.std.specs.Int.Signed.{lt_z, clash_ℤ}
use Rattle.sheet_types.specs.States.{State, inside, outside, unsure}
use Rattle.rounding.specs.laws.Order.{lt_z_true, lt_z_false, ≤ℤ-<ℤ_trans}
use Rattle.rounding.specs.laws.Ring.{num, ◌⊕◌, ◌⊖◌, ◌⊗◌, v0, v1, v2, v3}
use Rattle.rounding.specs.laws.Cert.{leq, less, lit, ◌⊞◌, ◌⊠◌, certify, certify-<}
use Rattle.shadow_geometry.specs.Shadow.{◌², state}

abbrev pub Means : (g r s : ℤ) → State → Type 0
Means g r s inside = (g <ℤ r) × (s <ℤ ((r -ℤ g) ²))
Means g r s outside = (g <ℤ r → ((r -ℤ g) ²) ≤ℤ s) × (((r +ℤ g) ²) <ℤ s)
Means g r s unsure = (g <ℤ r → ((r -ℤ g) ²) ≤ℤ s) × (s ≤ℤ ((r +ℤ g) ²))

module _ (g r s : ℤ) where
  pub state-means : Means g r s (state g r s)
  unfolding state
  state-means = go (lt_z g r) (lt_z s ((r -ℤ g) ²)) (lt_z ((r +ℤ g) ²) s) refl refl refl
    where
      go : (a b c : Bool) → lt_z g r ≡ a → lt_z s ((r -ℤ g) ²) ≡ b → lt_z ((r +ℤ g) ²) s ≡ c
          → Means g r s (cond (a && b) inside (cond c outside unsure))
      go true true c ea eb ec = (lt_z_true g r ea, lt_z_true s ((r -ℤ g) ²) eb)
      go true false true ea eb ec = ((λ h. lt_z_false s ((r -ℤ g) ²) eb), lt_z_true ((r +ℤ g) ²) s ec)
      go true false false ea eb ec = ((λ h. lt_z_false s ((r -ℤ g) ²) eb), lt_z_false ((r +ℤ g) ²) s ec)
      go false b true ea eb ec = ((λ h. clash_ℤ h (lt_z_false g r ea)), lt_z_true ((r +ℤ g) ²) s ec)
      go false b false ea eb ec = ((λ h. clash_ℤ h (lt_z_false g r ea)), lt_z_false ((r +ℤ g) ²) s ec)

  -- the same of a state that is known
  pub state-says : {w : State} → state g r s ≡ w → Means g r s w
  state-says e = subst (Means g r s) e state-means

  one-means : (w z : State) → Means g r s w → Means g r s z → w ≡ z
  one-means inside inside h k = refl
  one-means inside outside h k = clash_ℤ h.1 (k.0 h.0)
  one-means inside unsure h k = clash_ℤ h.1 (k.0 h.0)
  one-means outside inside h k = clash_ℤ k.1 (h.0 k.0)
  one-means outside outside h k = refl
  one-means outside unsure h k = clash_ℤ h.1 k.1
  one-means unsure inside h k = clash_ℤ k.1 (h.0 k.0)
  one-means unsure outside h k = clash_ℤ k.1 h.1
  one-means unsure unsure h k = refl

  pub state-edge : (w : State) → Means g r s w → state g r s ≡ w
  state-edge w h = one-means (state g r s) w state-means h

-- below, 0 is the smaller guard f, 1 the guard g, 2 the radius r and 3 the square s
module _ (f g r s : ℤ) (small : f ≤ℤ g) where
  abbrev env : List ℤ
  env = f ∷ g ∷ r ∷ s ∷ []

  inside_under : Means g r s inside → Means f r s inside
  inside_under h =
      let d = leq v0 v1 small in
      let e = less v1 v2 h.0 ⊞ lit 1 in (
        ≤ℤ-<ℤ_trans small h.0,
        certify-< 0 env v3 ((v2 ⊖ v0) ⊗ (v2 ⊖ v0)) (less v3 ((v2 ⊖ v1) ⊗ (v2 ⊖ v1)) h.1 ⊞ lit 2 ⊠ d ⊠ e ⊞ d ⊠ d) tt,
      )

  -- (r - f)² ≤ (r + f)² ≤ (r + g)² < s
  outside-under : pos 0 ≤ℤ f → pos 0 ≤ℤ (r +ℤ f) → Means g r s outside → Means f r s outside
  outside-under h k o =
      let d = leq v0 v1 small in
      let a = leq (num 0) v0 h in
      let b = leq (num 0) (v2 ⊕ v0) k in
      let far = less ((v2 ⊕ v1) ⊗ (v2 ⊕ v1)) v3 o.1 ⊞ lit 2 ⊠ d ⊠ b ⊞ d ⊠ d in (
        (λ i. certify 0 env ((v2 ⊖ v0) ⊗ (v2 ⊖ v0)) v3 (far ⊞ lit 1 ⊞ lit 4 ⊠ a ⊠ (less v0 v2 i ⊞ lit 1 ⊞ a)) tt),
        certify-< 0 env ((v2 ⊕ v0) ⊗ (v2 ⊕ v0)) v3 far tt,
      )

  -- the sign of r + f is free for central, and for the penumbra L1 is above 0 (Sizes, L1-positive)
  pub guard-monotone : pos 0 ≤ℤ f → pos 0 ≤ℤ (r +ℤ f) → (w : State) → (w ≡ unsure → ⊥) → state g r s ≡ w → state f r s ≡ w
  guard-monotone h k inside sure e = state-edge f r s inside (inside_under (state-says g r s e))
  guard-monotone h k outside sure e = state-edge f r s outside (outside-under h k (state-says g r s e))
  guard-monotone h k unsure sure e = absurd (sure refl)
