-- Values at a part of an hour: what stands still is what it is (`still-..`), how large they are (PartSizes of elements),
-- and how far they are from the exact ones: a step adds half a unit to three times the error before it, so ½, 2, 6½ units after one, two and
-- three steps, whatever the coefficients and whatever n.
use Rattle.std.specs.Prelude.{◌≡◌, [], ◌∷◌, ℕ, ◌+◌, ◌*◌, ◌≤◌, ℤ, ◌+ℤ◌, ◌-ℤ◌, ◌*ℤ◌}
use Rattle.std.proofs.Common.{◌∙◌, le_refl}
use Rattle.std.proofs.Math.Path.{ap}
use native.Mathlib.Omega.{arith}
use Rattle.std.proofs.Math.Nat.{mul-le-mul, mul-le-mul_left}
use Rattle.std.proofs.Math.IntN.{pos, nat_abs}
use Rattle.std.specs.Int.Signed.{le_z_yes}
use Rattle.rounding.specs.laws.Order.{nat_abs_sum, nat_abs_product}
use Rattle.rounding.specs.laws.Ring.{num, ◌⊕◌, ◌⊖◌, ◌⊗◌, ring, v0, v1, v2, v3, v4, v5, v6}
use Rattle.rounding.specs.Near.{near}
use Rattle.rounding.proofs.laws.NearLaws.{near-error, near_zero}
use Rattle.rounding.specs.Units.{hour}
use Rattle.elements.specs.declared.Cubic.{Cubic}
use Rattle.elements.specs.declared.Quadratic.{Quadratic}
use Rattle.elements.specs.Stars.{constant}
use Rattle.elements.specs.Polynomial.{step, quadratic_at, cubic_at}
pub use Rattle.elements.specs.laws.PartSizes.{whole, part-size, step-size, quadratic-size, cubic-size}
use Rattle.contact_times.specs.Parts.{stepBy, quadratic_by, cubic_by, constant_cubic, cube, exactQuadratic, exactCubic}

-- ---- at second 0 a constant is itself
still_step : (p c : ℤ) → step (pos 0) p c ≡ c
unfolding step
still_step p c =
    ap (λ (z : ℤ). near z hour +ℤ c) (ring (p ∷ []) (v0 ⊗ num 0) (num 0) tt) ∙ ap (λ (z : ℤ). z +ℤ c) (near_zero hour (le_z_yes tt))
    ∙ ring (c ∷ []) (num 0 ⊕ v0) v0 tt

pub still_quadratic : (c : ℤ) → quadratic_at (constant c) (pos 0) ≡ c
unfolding quadratic_at
still_quadratic c = still_step (step (pos 0) (pos 0) (pos 0)) c

pub still_cubic : (c : ℤ) → cubic_at (constant_cubic c) (pos 0) ≡ c
unfolding cubic_at
still_cubic c = still_step (step (pos 0) (step (pos 0) (pos 0) (pos 0)) (pos 0)) c

module _ (n : ℕ) (some : 1 ≤ n) where
  -- ---- errors
  -- p is P / S up to E / 2S: one step on
  step-error : (τ p c P : ℤ) (S E : ℕ) → nat_abs τ ≤ 3 * n → 2 * nat_abs (pos S *ℤ p -ℤ P) ≤ E
      → 2 * nat_abs (pos n *ℤ pos S *ℤ stepBy n τ p c -ℤ (P *ℤ τ +ℤ pos n *ℤ pos S *ℤ c)) ≤ n * S + 3 * n * E
  unfolding stepBy
  step-error τ p c P S E h k =
      let m = near (p *ℤ τ) (pos n) in
      let e = ring (τ ∷ p ∷ c ∷ P ∷ pos S ∷ m ∷ pos n ∷ []) (v6 ⊗ v4 ⊗ (v5 ⊕ v2) ⊖ (v3 ⊗ v0 ⊕ v6 ⊗ v4 ⊗ v2))
      (v4 ⊗ (v6 ⊗ v5 ⊖ v1 ⊗ v0) ⊕ v0 ⊗ (v4 ⊗ v1 ⊖ v3)) tt in
      omega (
        arith,
        ap nat_abs e,
        nat_abs_sum (pos S *ℤ (pos n *ℤ m -ℤ p *ℤ τ)) (τ *ℤ (pos S *ℤ p -ℤ P)),
        nat_abs_product (pos S) (pos n *ℤ m -ℤ p *ℤ τ),
        nat_abs_product τ (pos S *ℤ p -ℤ P),
        mul-le-mul (le_refl S) (near-error (p *ℤ τ) (pos n) (whole n some)),
        mul-le-mul h k,
      )

  -- the highest coefficient is exact
  first-error : (τ p c : ℤ) → 2 * nat_abs (pos n *ℤ stepBy n τ p c -ℤ (p *ℤ τ +ℤ pos n *ℤ c)) ≤ n
  unfolding stepBy
  first-error τ p c =
      let m = near (p *ℤ τ) (pos n) in
      omega (
        arith,
        ap nat_abs (ring ((p *ℤ τ) ∷ c ∷ m ∷ pos n ∷ []) (v3 ⊗ (v2 ⊕ v1) ⊖ (v0 ⊕ v3 ⊗ v1)) (v3 ⊗ v2 ⊖ v0) tt),
        near-error (p *ℤ τ) (pos n) (whole n some),
      )

  module _ (τ : ℤ) (h : nat_abs τ ≤ 3 * n) where
    -- within 2 units
    pub quadratic-error : (q : Quadratic) → 2 * nat_abs (pos (cube n) *ℤ quadratic_by n q τ -ℤ exactQuadratic n q τ) ≤ 4 * cube n
    unfolding quadratic_by exactQuadratic
    quadratic-error q =
        let a = stepBy n τ q.c2 q.c1 in
        let r = stepBy n τ a q.c0 in
        let P = q.c2 *ℤ τ +ℤ pos n *ℤ q.c1 in
        let last = step-error τ a q.c0 P n n h (first-error τ q.c2 q.c1) in
        let e = ring (τ ∷ q.c0 ∷ q.c1 ∷ q.c2 ∷ r ∷ pos n ∷ [])
        (v5 ⊗ v5 ⊗ v5 ⊗ v4 ⊖ (v1 ⊗ (v5 ⊗ v5 ⊗ v5) ⊕ v2 ⊗ v0 ⊗ (v5 ⊗ v5) ⊕ v3 ⊗ (v0 ⊗ v0) ⊗ v5))
        (v5 ⊗ (v5 ⊗ v5 ⊗ v4 ⊖ ((v3 ⊗ v0 ⊕ v5 ⊗ v2) ⊗ v0 ⊕ v5 ⊗ v5 ⊗ v1))) tt in
        omega (arith, ap nat_abs e, mul-le-mul_left n last, nat_abs_product (pos n) (pos n *ℤ pos n *ℤ r -ℤ (P *ℤ τ +ℤ pos n *ℤ pos n *ℤ q.c0)))

    -- within 6½ units
    pub cubic-error : (c : Cubic) → 2 * nat_abs (pos (cube n) *ℤ cubic_by n c τ -ℤ exactCubic n c τ) ≤ 13 * cube n
    unfolding cubic_by exactCubic
    cubic-error c =
        let a = stepBy n τ c.c3 c.c2 in
        let b = stepBy n τ a c.c1 in
        let r = stepBy n τ b c.c0 in
        let P = c.c3 *ℤ τ +ℤ pos n *ℤ c.c2 in
        let Q = P *ℤ τ +ℤ pos n *ℤ pos n *ℤ c.c1 in
        let second = step-error τ a c.c1 P n n h (first-error τ c.c3 c.c2) in
        let last = step-error τ b c.c0 Q (n * n) (n * n + 3 * n * n) h second in
        let e = ring (τ ∷ c.c0 ∷ c.c1 ∷ c.c2 ∷ c.c3 ∷ r ∷ pos n ∷ [])
        (v6 ⊗ v6 ⊗ v6 ⊗ v5 ⊖ (v1 ⊗ (v6 ⊗ v6 ⊗ v6) ⊕ v2 ⊗ v0 ⊗ (v6 ⊗ v6) ⊕ v3 ⊗ (v0 ⊗ v0) ⊗ v6 ⊕ v4 ⊗ (v0 ⊗ v0 ⊗ v0)))
        (v6 ⊗ (v6 ⊗ v6) ⊗ v5 ⊖ (((v4 ⊗ v0 ⊕ v6 ⊗ v3) ⊗ v0 ⊕ v6 ⊗ v6 ⊗ v2) ⊗ v0 ⊕ v6 ⊗ (v6 ⊗ v6) ⊗ v1)) tt in
        omega (arith, ap nat_abs e, last)
