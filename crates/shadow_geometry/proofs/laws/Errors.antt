-- How far u, v and L are from their exact values.
-- "Errors to be proved: u within 7 units, v 7½, L1 and L2 within 3 .. the cone's true error is near 2½":
--   u_error   |D u - exact u| ≤ 7 D
--   v_error   2 |D v - exact v| ≤ 15 D
--   L-inner   1000 |D L - exact L| ≤ 2505 D,  L-error   |D L - exact L| ≤ 3 D
-- Why: x and y are 6½ units off, l is 2. ξ is ½ off, once rounded; η and ζ are 1 off, twice rounded. The cone's term
-- is ½ off, and ζ's 1 times tan f, at most 0.005.
use Rattle.std.specs.Prelude.{◌≡◌, ℕ, ◌+◌, ◌*◌, ◌≤◌, ℤ, pos, ◌+ℤ◌, ◌-ℤ◌, ◌*ℤ◌}
use Rattle.std.proofs.Math.Path.{refl, ap}
use Rattle.std.proofs.Common.{◌∙◌}
use mathlib.Core.List.{[], ◌∷◌}
use native.Mathlib.Omega.{arith}
use Rattle.std.proofs.Math.Nat.{mul-le-mul}
use Rattle.std.proofs.Math.IntN.{neg_ℤ, nat_abs}
use Rattle.std.specs.Int.Signed.{le_z_yes}
use Rattle.rounding.specs.laws.Order.{nat_abs_sum, nat_abs_minus, nat_abs_opposite, nat_abs_product}
use Rattle.rounding.specs.laws.Ring.{num, ◌⊕◌, ◌⊖◌, ◌⊗◌, opp, ring, v0, v1, v2, v3, v4, v5, v6, v7}
use Rattle.rounding.specs.Near.{near}
use Rattle.rounding.proofs.laws.NearLaws.{near-error}
use Rattle.rounding.specs.Units.{one}
use Rattle.sine.specs.Sine.{sine, cosine}
use Rattle.sine.specs.laws.SineLaws.{sine-size, cosine-size}
use Rattle.elements.specs.declared.Cone.{Cone}
use Rattle.elements.specs.Elements.{x_at, y_at, l_at}
use Rattle.shadow_geometry.specs.laws.PolynomialError.{quadratic-error, cubic-error}
use Rattle.shadow_geometry.specs.Shadow.{Moment, ◌², H, d, q, ξ, η, ζ, u, v, L}
use Rattle.shadow_geometry.specs.Exact.{◌³, D, exact_x, exact_y, exact_l, exact_q, exact_ξ, exact_η, exact_ζ, exact_term, exact_u, exact_v, exact_L}

-- n is a + q w and q is b, each over 10^8 to the nearest, and |w| ≤ 10^8: n is (10^8 a + b w) / 10^16 within a unit
rounded_twice : (n a b q w : ℤ) → nat_abs w ≤ 100000000 → 2 * nat_abs (one *ℤ n -ℤ (a +ℤ q *ℤ w)) ≤ 100000000 → 2 * nat_abs (one *ℤ q -ℤ b) ≤ 100000000
    → nat_abs (one ² *ℤ n -ℤ (a *ℤ one +ℤ b *ℤ w)) ≤ 10000000000000000
rounded_twice n a b q w hw hn hq =
    let e = ring (n ∷ a ∷ b ∷ q ∷ w ∷ []) (num 10000000000000000 ⊗ v0 ⊖ (v1 ⊗ num 100000000 ⊕ v2 ⊗ v4))
    (num 100000000 ⊗ (num 100000000 ⊗ v0 ⊖ (v1 ⊕ v3 ⊗ v4)) ⊕ v4 ⊗ (num 100000000 ⊗ v3 ⊖ v2)) tt in
    omega (
      arith,
      ap nat_abs e,
      nat_abs_sum (one *ℤ (one *ℤ n -ℤ (a +ℤ q *ℤ w))) (w *ℤ (one *ℤ q -ℤ b)),
      nat_abs_product one (one *ℤ n -ℤ (a +ℤ q *ℤ w)),
      nat_abs_product w (one *ℤ q -ℤ b),
      mul-le-mul hw hq,
    )

-- z is Z / H and n is N / S: how far z - n is from their difference, over a H = b S
difference-error : (a H b S : ℕ) (z Z n N : ℤ) → a * H ≡ b * S
    → nat_abs (pos (a * H) *ℤ (z -ℤ n) -ℤ (Z *ℤ pos a -ℤ N *ℤ pos b)) ≤ a * nat_abs (pos H *ℤ z -ℤ Z) + b * nat_abs (pos S *ℤ n -ℤ N)
difference-error a H b S z Z n N h =
    let env = pos a ∷ pos H ∷ pos b ∷ pos S ∷ z ∷ Z ∷ n ∷ N ∷ [] in
    let r = v5 ⊗ v0 ⊖ v7 ⊗ v2 in
    let e = ring env (v0 ⊗ v1 ⊗ (v4 ⊖ v6) ⊖ r) (v0 ⊗ v1 ⊗ v4 ⊖ v0 ⊗ v1 ⊗ v6 ⊖ r) tt
    ∙ ap (λ (t : ℤ). pos a *ℤ pos H *ℤ z -ℤ t *ℤ n -ℤ (Z *ℤ pos a -ℤ N *ℤ pos b)) (ap pos h)
    ∙ ring env (v0 ⊗ v1 ⊗ v4 ⊖ v2 ⊗ v3 ⊗ v6 ⊖ r) (v0 ⊗ (v1 ⊗ v4 ⊖ v5) ⊖ v2 ⊗ (v3 ⊗ v6 ⊖ v7)) tt in
    omega (
      arith,
      ap nat_abs e,
      nat_abs_minus (pos a *ℤ (pos H *ℤ z -ℤ Z)) (pos b *ℤ (pos S *ℤ n -ℤ N)),
      nat_abs_product (pos a) (pos H *ℤ z -ℤ Z),
      nat_abs_product (pos b) (pos S *ℤ n -ℤ N),
    )

-- of any axis and any place
module _ (m : Moment) where
  -- within 1
  pub ζ-error : nat_abs (one ² *ℤ ζ m -ℤ exact_ζ m) ≤ 10000000000000000
  unfolding ζ q exact_ζ exact_q
  ζ-error =
      rounded_twice (ζ m) (m.place.p *ℤ sine (d m)) (exact_q m) (q m) (cosine (d m)) (cosine-size (d m))
      (near-error (m.place.p *ℤ sine (d m) +ℤ q m *ℤ cosine (d m)) one (le_z_yes tt)) (near-error (exact_q m) one (le_z_yes tt))

  -- within 1
  pub η-error : nat_abs (one ² *ℤ η m -ℤ exact_η m) ≤ 10000000000000000
  unfolding η q exact_η exact_q
  η-error =
      let a = m.place.p *ℤ cosine (d m) in
      let b = exact_q m in
      let s = sine (d m) in
      let e = a ∷ b ∷ q m ∷ s ∷ η m ∷ [] in
      let w : nat_abs (neg_ℤ s) ≤ 100000000 = omega (arith, nat_abs_opposite s, sine-size (d m)) in
      let n : 2 * nat_abs (one *ℤ η m -ℤ (a +ℤ q m *ℤ neg_ℤ s)) ≤ 100000000 =
      omega (
        arith,
        near-error (a -ℤ q m *ℤ s) one (le_z_yes tt),
        ap nat_abs (ring e (num 100000000 ⊗ v4 ⊖ (v0 ⊖ v2 ⊗ v3)) (num 100000000 ⊗ v4 ⊖ (v0 ⊕ v2 ⊗ opp v3)) tt),
      ) in
      omega (
        arith,
        rounded_twice (η m) a b (q m) (neg_ℤ s) w n (near-error b one (le_z_yes tt)),
        ap nat_abs (ring e (num 10000000000000000 ⊗ v4 ⊖ (v0 ⊗ num 100000000 ⊖ v1 ⊗ v3)) (num 10000000000000000 ⊗ v4 ⊖ (v0 ⊗ num 100000000 ⊕ v1 ⊗ opp v3)) tt),
      )

module _ (m : Moment) (t : nat_abs m.τ ≤ 10800) where
  -- within 7
  pub u_error : nat_abs (pos D *ℤ u m -ℤ exact_u m) ≤ 7 * D
  unfolding u exact_u ξ exact_ξ
  u_error =
      omega (
        arith,
        difference-error 1000000000000000000000000 46656000000 466560000000000000000000000 100000000 (x_at m.axis m.τ) (exact_x m) (ξ m) (exact_ξ m) refl,
        cubic-error m.τ t m.axis.x,
        near-error (exact_ξ m) one (le_z_yes tt),
      )

  -- within 7½
  pub v_error : 2 * nat_abs (pos D *ℤ v m -ℤ exact_v m) ≤ 15 * D
  unfolding v exact_v
  v_error =
      omega (
        arith,
        difference-error 1000000000000000000000000 46656000000 4665600000000000000 10000000000000000 (y_at m.axis m.τ) (exact_y m) (η m) (exact_η m) refl,
        cubic-error m.τ t m.axis.y,
        η-error m,
      )

  -- of a cone, or of a cylinder, whose tangent is 0
  module _ (k : Cone) (f : nat_abs k.tanf ≤ 500000) where
    -- the cone's term within 0.505
    term-error : 1000 * nat_abs (one ³ *ℤ near (ζ m *ℤ k.tanf) one -ℤ exact_term m k) ≤ 505 * (100000000 * 100000000 * 100000000)
    unfolding exact_term
    term-error =
        let n = near (ζ m *ℤ k.tanf) one in
        let e = ring (n ∷ ζ m ∷ exact_ζ m ∷ k.tanf ∷ []) (num 1000000000000000000000000 ⊗ v0 ⊖ v2 ⊗ v3)
        (num 10000000000000000 ⊗ (num 100000000 ⊗ v0 ⊖ v1 ⊗ v3) ⊕ v3 ⊗ (num 10000000000000000 ⊗ v1 ⊖ v2)) tt in
        omega (
          arith,
          ap nat_abs e,
          nat_abs_sum (one ² *ℤ (one *ℤ n -ℤ ζ m *ℤ k.tanf)) (k.tanf *ℤ (one ² *ℤ ζ m -ℤ exact_ζ m)),
          nat_abs_product (one ²) (one *ℤ n -ℤ ζ m *ℤ k.tanf),
          nat_abs_product k.tanf (one ² *ℤ ζ m -ℤ exact_ζ m),
          near-error (ζ m *ℤ k.tanf) one (le_z_yes tt),
          mul-le-mul f (ζ-error m),
        )

    -- within 2.505
    pub L-inner : 1000 * nat_abs (pos D *ℤ L m k -ℤ exact_L m k) ≤ 2505 * D
    unfolding L exact_L
    L-inner =
        let n = near (ζ m *ℤ k.tanf) one in
        omega (
          arith,
          difference-error 1000000000000000000000000 46656000000 46656000000 1000000000000000000000000 (l_at k m.τ) (exact_l m k) n (exact_term m k) refl,
          quadratic-error m.τ t k.l,
          term-error,
        )

    -- within 3
    pub L-error : nat_abs (pos D *ℤ L m k -ℤ exact_L m k) ≤ 3 * D
    L-error = omega (arith, L-inner)
