-- How far a value at a second, rounded at each step, is from the exact one: a step adds half a unit to three times the
-- error before it, so ½, 2, 6½ units after one, two and three steps, whatever the coefficients.
use Rattle.std.proofs.Math.Path.{ap}
use Rattle.std.specs.Prelude.{[], ◌∷◌, ℕ, ◌+◌, ◌*◌, ◌≤◌, ℤ, ◌+ℤ◌, ◌-ℤ◌, ◌*ℤ◌}
use Rattle.std.proofs.Common.{arith, mul-le-mul, le_refl}
use Rattle.std.proofs.Math.IntN.{pos, nat_abs}
use Rattle.std.specs.Int.Signed.{le_z_yes}
use Rattle.rounding.specs.laws.Order.{nat_abs_sum, nat_abs_product}
use Rattle.rounding.specs.laws.Ring.{num, ◌⊕◌, ◌⊖◌, ◌⊗◌, ring, v0, v1, v2, v3, v4, v5}
use Rattle.rounding.specs.Near.{near}
use Rattle.rounding.proofs.laws.NearLaws.{near-error}
use Rattle.rounding.specs.Units.{hour}
use Rattle.elements.specs.declared.Cubic.{Cubic}
use Rattle.elements.specs.declared.Quadratic.{Quadratic}
use Rattle.elements.specs.Polynomial.{step, quadratic_at, cubic_at}
use Rattle.shadow_geometry.specs.Exact.{◌³, exact-cubic, exact-quadratic}

-- p is P / S up to E / 2S: one step on
step-error : (τ p c P : ℤ) (S E : ℕ) → nat_abs τ ≤ 10800 → 2 * nat_abs (pos S *ℤ p -ℤ P) ≤ E
    → 2 * nat_abs (hour *ℤ pos S *ℤ step τ p c -ℤ (P *ℤ τ +ℤ hour *ℤ pos S *ℤ c)) ≤ 3600 * S + 10800 * E
unfolding step
step-error τ p c P S E h k =
    let n = near (p *ℤ τ) hour in
    let e = ring (τ ∷ p ∷ c ∷ P ∷ pos S ∷ n ∷ []) (num 3600 ⊗ v4 ⊗ (v5 ⊕ v2) ⊖ (v3 ⊗ v0 ⊕ num 3600 ⊗ v4 ⊗ v2))
    (v4 ⊗ (num 3600 ⊗ v5 ⊖ v1 ⊗ v0) ⊕ v0 ⊗ (v4 ⊗ v1 ⊖ v3)) tt in
    omega (
      arith,
      ap nat_abs e,
      nat_abs_sum (pos S *ℤ (hour *ℤ n -ℤ p *ℤ τ)) (τ *ℤ (pos S *ℤ p -ℤ P)),
      nat_abs_product (pos S) (hour *ℤ n -ℤ p *ℤ τ),
      nat_abs_product τ (pos S *ℤ p -ℤ P),
      mul-le-mul (le_refl S) (near-error (p *ℤ τ) hour (le_z_yes tt)),
      mul-le-mul h k,
    )

-- the highest coefficient is exact
no_error : (c : ℤ) → 2 * nat_abs (pos 1 *ℤ c -ℤ c) ≤ 0
no_error c = omega (arith, ap nat_abs (ring (c ∷ []) (num 1 ⊗ v0 ⊖ v0) (num 0) tt))

module _ (τ : ℤ) (h : nat_abs τ ≤ 10800) where
  -- within 2 units
  pub quadratic-error : (q : Quadratic) → 2 * nat_abs (hour ³ *ℤ quadratic_at q τ -ℤ exact-quadratic q τ) ≤ 4 * (3600 * 3600 * 3600)
  unfolding quadratic_at exact-quadratic
  quadratic-error q =
      let a = step τ q.c2 q.c1 in
      let r = step τ a q.c0 in
      let P = q.c2 *ℤ τ +ℤ pos 3600 *ℤ q.c1 in
      let last = step-error τ a q.c0 P 3600 3600 h (step-error τ q.c2 q.c1 q.c2 1 0 h (no_error q.c2)) in
      let e = ring (τ ∷ q.c0 ∷ q.c1 ∷ q.c2 ∷ r ∷ [])
      (num 46656000000 ⊗ v4 ⊖ (v1 ⊗ num 46656000000 ⊕ v2 ⊗ v0 ⊗ num 12960000 ⊕ v3 ⊗ (v0 ⊗ v0) ⊗ num 3600))
      (num 3600 ⊗ (num 12960000 ⊗ v4 ⊖ ((v3 ⊗ v0 ⊕ num 3600 ⊗ v2) ⊗ v0 ⊕ num 12960000 ⊗ v1))) tt in
      omega (arith, ap nat_abs e, last, nat_abs_product hour (pos 12960000 *ℤ r -ℤ (P *ℤ τ +ℤ pos 12960000 *ℤ q.c0)))

  -- within 6½ units
  pub cubic-error : (c : Cubic) → 2 * nat_abs (hour ³ *ℤ cubic_at c τ -ℤ exact-cubic c τ) ≤ 13 * (3600 * 3600 * 3600)
  unfolding cubic_at exact-cubic
  cubic-error c =
      let a = step τ c.c3 c.c2 in
      let b = step τ a c.c1 in
      let r = step τ b c.c0 in
      let P = c.c3 *ℤ τ +ℤ pos 3600 *ℤ c.c2 in
      let Q = P *ℤ τ +ℤ pos 12960000 *ℤ c.c1 in
      let second = step-error τ a c.c1 P 3600 3600 h (step-error τ c.c3 c.c2 c.c3 1 0 h (no_error c.c3)) in
      let last = step-error τ b c.c0 Q 12960000 51840000 h second in
      let e = ring (τ ∷ c.c0 ∷ c.c1 ∷ c.c2 ∷ c.c3 ∷ r ∷ [])
      (num 46656000000 ⊗ v5 ⊖ (v1 ⊗ num 46656000000 ⊕ v2 ⊗ v0 ⊗ num 12960000 ⊕ v3 ⊗ (v0 ⊗ v0) ⊗ num 3600 ⊕ v4 ⊗ (v0 ⊗ v0 ⊗ v0)))
      (num 46656000000 ⊗ v5 ⊖ (((v4 ⊗ v0 ⊕ num 3600 ⊗ v3) ⊗ v0 ⊕ num 12960000 ⊗ v2) ⊗ v0 ⊕ num 46656000000 ⊗ v1)) tt in
      omega (arith, ap nat_abs e, last)
