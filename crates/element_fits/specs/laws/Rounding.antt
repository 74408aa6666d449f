-- How far the whole-number polynomials are from the exact ones at an hour.
--   cubic-within       at most 1872/252, that is 7 3/7 units
--   quadratic-within   at most 372/84, that is 4 3/7 units
--   cubic-own          the values of a cubic with whole coefficients give these coefficients
-- With the four roundings' remainders z3 = 36 c3 - .., z2 = 84 c2 - .., z1 = 28 c1 - .., z0 = 7 c0 - .., at most 18, 42, 14 and 3 in size, the
-- difference of the values at t is 7 (t³ - 7t) z3 + 3 (t² - 4) z2 + 9 t z1 + 36 z0 over 252.
use Rattle.std.specs.Prelude.{◌≡◌, refl, [], ◌∷◌, ℕ, zero, suc, ◌+◌, ◌*◌, ◌≤◌, ℤ, pos, negsuc, nat_abs, ◌+ℤ◌, ◌-ℤ◌, ◌*ℤ◌}
use Rattle.std.proofs.Common.{ap, ◌∙◌, arith, mul-le-mul_left}
use Rattle.std.specs.Int.Signed.{le_z_yes}
use Rattle.rounding.specs.laws.Order.{zs, nat_abs_sum, nat_abs_product}
use Rattle.rounding.specs.laws.Ring.{Expr, var, con, num, ◌⊕◌, ◌⊖◌, ◌⊗◌, ring}
use Rattle.rounding.specs.Near.{near}
use Rattle.rounding.proofs.laws.NearLaws.{near-error}
use Rattle.elements.specs.declared.Cubic.{Cubic}
use Rattle.element_fits.specs.declared.least_squares.Hourly.{Hourly}
use Rattle.element_fits.specs.LeastSquares.{sum, first, second, third, cubic, quadratic}
use Rattle.element_fits.specs.Exact.{cubic_at_hour, quadratic_at_hour, exactCubic, exactQuadratic}

-- a remainder times its factor
times : (a z : ℤ) {m : ℕ} → nat_abs z ≤ m → nat_abs (a *ℤ z) ≤ nat_abs a * m
times a z h = omega (arith, nat_abs_product a z, mul-le-mul_left (nat_abs a) h)

module _ (v : Hourly) where
  abbrev c3 : ℤ
  c3 = near (third v) (pos 36)

  abbrev c2 : ℤ
  c2 = near (second v) (pos 84)

  abbrev c1 : ℤ
  c1 = near (first v -ℤ pos 196 *ℤ c3) (pos 28)

  abbrev c0 : ℤ
  c0 = near (sum v -ℤ pos 28 *ℤ c2) (pos 7)

  abbrev b1 : ℤ
  b1 = near (first v) (pos 28)

  abbrev z3 : ℤ
  z3 = pos 36 *ℤ c3 -ℤ third v

  abbrev z2 : ℤ
  z2 = pos 84 *ℤ c2 -ℤ second v

  abbrev z1 : ℤ
  z1 = pos 28 *ℤ c1 -ℤ (first v -ℤ pos 196 *ℤ c3)

  abbrev z0 : ℤ
  z0 = pos 7 *ℤ c0 -ℤ (sum v -ℤ pos 28 *ℤ c2)

  abbrev y1 : ℤ
  y1 = pos 28 *ℤ b1 -ℤ first v

  z3-small : nat_abs z3 ≤ 18
  z3-small = omega (arith, near-error (third v) (pos 36) (le_z_yes tt))

  z2-small : nat_abs z2 ≤ 42
  z2-small = omega (arith, near-error (second v) (pos 84) (le_z_yes tt))

  z1-small : nat_abs z1 ≤ 14
  z1-small = omega (arith, near-error (first v -ℤ pos 196 *ℤ c3) (pos 28) (le_z_yes tt))

  -- seven is odd, so there is no half
  z0-small : nat_abs z0 ≤ 3
  z0-small = omega (arith, near-error (sum v -ℤ pos 28 *ℤ c2) (pos 7) (le_z_yes tt))

  y1-small : nat_abs y1 ≤ 14
  y1-small = omega (arith, near-error (first v) (pos 28) (le_z_yes tt))

  -- ---- the cubic at t
  module _ (t : ℤ) where
    abbrev off-cubic : ℤ
    off-cubic = pos 252 *ℤ cubic_at_hour (cubic v) t -ℤ cubic_at_hour (exactCubic v) t

    abbrev off-quadratic : ℤ
    off-quadratic = pos 84 *ℤ quadratic_at_hour (quadratic v) t -ℤ quadratic_at_hour (exactQuadratic v) t

    abbrev k3 : ℤ
    k3 = pos 7 *ℤ (t *ℤ t *ℤ t -ℤ pos 7 *ℤ t)

    abbrev k2 : ℤ
    k2 = pos 3 *ℤ (t *ℤ t -ℤ pos 4)

    abbrev k1 : ℤ
    k1 = pos 9 *ℤ t

    abbrev j2 : ℤ
    j2 = t *ℤ t -ℤ pos 4

    abbrev j1 : ℤ
    j1 = pos 3 *ℤ t

    cubic-parts : off-cubic ≡ k3 *ℤ z3 +ℤ k2 *ℤ z2 +ℤ k1 *ℤ z1 +ℤ pos 36 *ℤ z0
    unfolding cubic exactCubic
    cubic-parts =
        ring (t ∷ c3 ∷ c2 ∷ c1 ∷ c0 ∷ third v ∷ second v ∷ first v ∷ sum v ∷ [])
        (num 252 ⊗ (((var 1 ⊗ var 0 ⊕ var 2) ⊗ var 0 ⊕ var 3) ⊗ var 0 ⊕ var 4)
        ⊖ (((num 7 ⊗ var 5 ⊗ var 0 ⊕ num 3 ⊗ var 6) ⊗ var 0 ⊕ (num 9 ⊗ var 7 ⊖ num 49 ⊗ var 5)) ⊗ var 0 ⊕ (num 36 ⊗ var 8 ⊖ num 12 ⊗ var 6)))
        (num 7 ⊗ (var 0 ⊗ var 0 ⊗ var 0 ⊖ num 7 ⊗ var 0) ⊗ (num 36 ⊗ var 1 ⊖ var 5) ⊕ num 3 ⊗ (var 0 ⊗ var 0 ⊖ num 4) ⊗ (num 84 ⊗ var 2 ⊖ var 6)
        ⊕ num 9 ⊗ var 0 ⊗ (num 28 ⊗ var 3 ⊖ (var 7 ⊖ num 196 ⊗ var 1)) ⊕ num 36 ⊗ (num 7 ⊗ var 4 ⊖ (var 8 ⊖ num 28 ⊗ var 2))) tt

    cubic-off : nat_abs off-cubic ≤ nat_abs k3 * 18 + nat_abs k2 * 42 + nat_abs k1 * 14 + 36 * 3
    cubic-off =
        omega (
          arith,
          ap nat_abs cubic-parts,
          nat_abs_sum (k3 *ℤ z3 +ℤ k2 *ℤ z2 +ℤ k1 *ℤ z1) (pos 36 *ℤ z0),
          nat_abs_sum (k3 *ℤ z3 +ℤ k2 *ℤ z2) (k1 *ℤ z1),
          nat_abs_sum (k3 *ℤ z3) (k2 *ℤ z2),
          times k3 z3 z3-small,
          times k2 z2 z2-small,
          times k1 z1 z1-small,
          times (pos 36) z0 z0-small,
        )

    quadratic-parts : off-quadratic ≡ j2 *ℤ z2 +ℤ j1 *ℤ y1 +ℤ pos 12 *ℤ z0
    unfolding quadratic exactQuadratic
    quadratic-parts =
        ring (t ∷ c2 ∷ b1 ∷ c0 ∷ second v ∷ first v ∷ sum v ∷ [])
        (num 84 ⊗ ((var 1 ⊗ var 0 ⊕ var 2) ⊗ var 0 ⊕ var 3) ⊖ ((var 4 ⊗ var 0 ⊕ num 3 ⊗ var 5) ⊗ var 0 ⊕ (num 12 ⊗ var 6 ⊖ num 4 ⊗ var 4)))
        ((var 0 ⊗ var 0 ⊖ num 4) ⊗ (num 84 ⊗ var 1 ⊖ var 4) ⊕ num 3 ⊗ var 0 ⊗ (num 28 ⊗ var 2 ⊖ var 5)
        ⊕ num 12 ⊗ (num 7 ⊗ var 3 ⊖ (var 6 ⊖ num 28 ⊗ var 1))) tt

    quadratic-off : nat_abs off-quadratic ≤ nat_abs j2 * 42 + nat_abs j1 * 14 + 12 * 3
    quadratic-off =
        omega (
          arith,
          ap nat_abs quadratic-parts,
          nat_abs_sum (j2 *ℤ z2 +ℤ j1 *ℤ y1) (pos 12 *ℤ z0),
          nat_abs_sum (j2 *ℤ z2) (j1 *ℤ y1),
          times j2 z2 z2-small,
          times j1 y1 y1-small,
          times (pos 12) z0 z0-small,
        )

  -- ---- at the seven hours
  pub cubic-within : (t : ℤ) → nat_abs t ≤ 3 → nat_abs (pos 252 *ℤ cubic_at_hour (cubic v) t -ℤ cubic_at_hour (exactCubic v) t) ≤ 1872
  cubic-within (pos zero) h = omega (arith, cubic-off (pos 0))
  cubic-within (pos (suc zero)) h = omega (arith, cubic-off (pos 1))
  cubic-within (pos (suc (suc zero))) h = omega (arith, cubic-off (pos 2))
  cubic-within (pos (suc (suc (suc zero)))) h = omega (arith, cubic-off (pos 3))
  cubic-within (pos (suc (suc (suc (suc n))))) h = absurd (omega arith)
  cubic-within (negsuc zero) h = omega (arith, cubic-off (negsuc 0))
  cubic-within (negsuc (suc zero)) h = omega (arith, cubic-off (negsuc 1))
  cubic-within (negsuc (suc (suc zero))) h = omega (arith, cubic-off (negsuc 2))
  cubic-within (negsuc (suc (suc (suc n)))) h = absurd (omega arith)

  pub quadratic-within : (t : ℤ) → nat_abs t ≤ 3 → nat_abs (pos 84 *ℤ quadratic_at_hour (quadratic v) t -ℤ quadratic_at_hour (exactQuadratic v) t) ≤ 372
  quadratic-within (pos zero) h = omega (arith, quadratic-off (pos 0))
  quadratic-within (pos (suc zero)) h = omega (arith, quadratic-off (pos 1))
  quadratic-within (pos (suc (suc zero))) h = omega (arith, quadratic-off (pos 2))
  quadratic-within (pos (suc (suc (suc zero)))) h = omega (arith, quadratic-off (pos 3))
  quadratic-within (pos (suc (suc (suc (suc n))))) h = absurd (omega arith)
  quadratic-within (negsuc zero) h = omega (arith, quadratic-off (negsuc 0))
  quadratic-within (negsuc (suc zero)) h = omega (arith, quadratic-off (negsuc 1))
  quadratic-within (negsuc (suc (suc zero))) h = omega (arith, quadratic-off (negsuc 2))
  quadratic-within (negsuc (suc (suc (suc n)))) h = absurd (omega arith)

-- ---- a polynomial's own values
nothing : (z : ℤ) → nat_abs z ≤ 0 → z ≡ pos 0
nothing (pos zero) h = refl
nothing (pos (suc n)) h = absurd (omega arith)
nothing (negsuc n) h = absurd (omega arith)

near_multiple : (k : ℕ) (z : ℤ) → near (pos (suc k) *ℤ z) (pos (suc k)) ≡ z
near_multiple k z =
    let n = near (pos (suc k) *ℤ z) (pos (suc k)) in
    let l = near-error (pos (suc k) *ℤ z) (pos (suc k)) (omega (arith, zs)) in
    let e = ap nat_abs (ring (pos (suc k) ∷ n ∷ z ∷ []) (var 0 ⊗ var 1 ⊖ var 0 ⊗ var 2) (var 0 ⊗ (var 1 ⊖ var 2)) tt) in
    let none : nat_abs (n -ℤ z) ≤ 0 = few (nat_abs (n -ℤ z)) (omega (arith, l, e, nat_abs_product (pos (suc k)) (n -ℤ z))) in
    ring (n ∷ z ∷ []) (var 0) ((var 0 ⊖ var 1) ⊕ var 1) tt ∙ ap (λ (y : ℤ). y +ℤ z) (nothing (n -ℤ z) none) ∙ ring (z ∷ []) (num 0 ⊕ var 0) (var 0) tt
  where
    few : (m : ℕ) → 2 * (suc k * m) ≤ suc k → m ≤ 0
    few zero h = omega arith
    few (suc m) h = absurd (omega arith)

-- the values of a polynomial at the seven hours
abbrev pub hourly : (ℤ → ℤ) → Hourly
hourly f = record { v0 = f (negsuc 2); v1 = f (negsuc 1); v2 = f (negsuc 0); v3 = f (pos 0); v4 = f (pos 1); v5 = f (pos 2); v6 = f (pos 3) }

abbrev at : (c0 c1 c2 c3 : Expr) → ℤ → Expr
at c0 c1 c2 c3 t = ((c3 ⊗ con t ⊕ c2) ⊗ con t ⊕ c1) ⊗ con t ⊕ c0

module _ (c : Cubic) where
  abbrev own : Hourly
  own = hourly (cubic_at_hour c)

  abbrev p : ℤ → Expr
  p = at (var 0) (var 1) (var 2) (var 3)

  own-third : third own ≡ pos 36 *ℤ c.c3
  unfolding third
  own-third =
      ring (c.c0 ∷ c.c1 ∷ c.c2 ∷ c.c3 ∷ []) ((p (pos 3) ⊖ p (negsuc 2)) ⊖ (p (pos 2) ⊖ p (negsuc 1)) ⊖ (p (pos 1) ⊖ p (negsuc 0))) (num 36 ⊗ var 3) tt

  own-second : second own ≡ pos 84 *ℤ c.c2
  unfolding second
  own-second =
      ring (c.c0 ∷ c.c1 ∷ c.c2 ∷ c.c3 ∷ [])
      (num 5 ⊗ (p (negsuc 2) ⊕ p (pos 3)) ⊖ num 3 ⊗ (p (negsuc 0) ⊕ p (pos 1)) ⊖ num 4 ⊗ p (pos 0)) (num 84 ⊗ var 2) tt

  own_first : first own -ℤ pos 196 *ℤ c.c3 ≡ pos 28 *ℤ c.c1
  unfolding first
  own_first =
      ring (c.c0 ∷ c.c1 ∷ c.c2 ∷ c.c3 ∷ [])
      (num 3 ⊗ (p (pos 3) ⊖ p (negsuc 2)) ⊕ num 2 ⊗ (p (pos 2) ⊖ p (negsuc 1)) ⊕ (p (pos 1) ⊖ p (negsuc 0)) ⊖ num 196 ⊗ var 3) (num 28 ⊗ var 1) tt

  own-sum : sum own -ℤ pos 28 *ℤ c.c2 ≡ pos 7 *ℤ c.c0
  unfolding sum
  own-sum =
      ring (c.c0 ∷ c.c1 ∷ c.c2 ∷ c.c3 ∷ [])
      (p (negsuc 2) ⊕ p (negsuc 1) ⊕ p (negsuc 0) ⊕ p (pos 0) ⊕ p (pos 1) ⊕ p (pos 2) ⊕ p (pos 3) ⊖ num 28 ⊗ var 2) (num 7 ⊗ var 0) tt

  pub cubic-own : cubic (hourly (cubic_at_hour c)) ≡ c
  unfolding cubic
  cubic-own =
      rw (own-third, own-second, near_multiple 35 c.c3, near_multiple 83 c.c2, own_first, own-sum, near_multiple 27 c.c1, near_multiple 6 c.c0)
