-- u, v and L at a part of an hour are known as well as at a second: 7, 7½ and 2.505 units from their values without
-- rounding, from the same sines and place (`approximate`), so all laws over `Approximate` (13 units) hold there too. At
-- a second these values are demand 3's exact ones (`u-exact`, `v-exact`, `L-exact`). Why: x and y are 6½ units off, l
-- is 2 (PartErrors). ξ is ½ off, η and ζ are 1 off (shadow_geometry, Errors). The cone's term is ½ off, and ζ's 1 times
-- tan f.
use Rattle.std.specs.Prelude.{◌≡◌, [], ◌∷◌, ℕ, ◌+◌, ◌*◌, ◌≤◌, ℤ, pos, ◌-ℤ◌, ◌*ℤ◌}
use Rattle.std.proofs.Math.Path.{refl, ap}
use Rattle.std.proofs.Common.{◌∙◌, mul-pos, lit≤}
use native.Mathlib.Omega.{arith}
use Rattle.std.proofs.Math.Nat.{mul-le-mul, mul-le-mul_left}
use Rattle.std.proofs.Math.IntN.{nat_abs}
use Rattle.std.specs.Int.Signed.{le_z_yes}
use Rattle.sheet_types.specs.declared.phases.Phase.{Phase}
use Rattle.rounding.specs.laws.Order.{nat_abs_sum, nat_abs_minus, nat_abs_product}
use Rattle.rounding.specs.laws.Ring.{num, ◌⊕◌, ◌⊖◌, ◌⊗◌, ring, v0, v1, v2, v3, v4, v5, v6, v7}
use Rattle.rounding.specs.Units.{one}
use Rattle.rounding.specs.Near.{near}
use Rattle.rounding.proofs.laws.NearLaws.{near-error}
use Rattle.elements.specs.declared.Axis.{Axis}
use Rattle.elements.specs.declared.Cone.{Cone}
use Rattle.station.specs.declared.Place.{Place}
use Rattle.shadow_geometry.specs.Shadow.{Moment, moment_of, ◌², H, ξ, η, ζ, u, v, L, edge}
use Rattle.shadow_geometry.specs.Exact.{◌³, exact_q, exact_ξ, exact_η, exact_ζ, exact_term}
use Rattle.shadow_geometry.specs.Exact as Exact
use Rattle.shadow_geometry.proofs.laws.Errors.{η-error, ζ-error}
use Rattle.shadow_geometry.proofs.Thirteen.{Approximate, edge_apart}
use Rattle.contact_times.specs.Parts.{cubic_by, quadratic_by, cone_by, moment_by, cube, exactQuadratic, exactCubic}
use Rattle.contact_times.specs.laws.WholeSeconds.{H-second, d-second}
use Rattle.contact_times.specs.laws.PartErrors.{still_quadratic, still_cubic, quadratic-error, cubic-error}

-- z is Z / H and m is N / S: how far z - m is from their difference, over a H = b S
difference-error : (a H b S : ℕ) (z Z m N : ℤ) → a * H ≡ b * S
    → nat_abs (pos (a * H) *ℤ (z -ℤ m) -ℤ (Z *ℤ pos a -ℤ N *ℤ pos b)) ≤ a * nat_abs (pos H *ℤ z -ℤ Z) + b * nat_abs (pos S *ℤ m -ℤ N)
difference-error a H b S z Z m N h =
    let env = pos a ∷ pos H ∷ pos b ∷ pos S ∷ z ∷ Z ∷ m ∷ N ∷ [] in
    let r = v5 ⊗ v0 ⊖ v7 ⊗ v2 in
    let e = ring env (v0 ⊗ v1 ⊗ (v4 ⊖ v6) ⊖ r) (v0 ⊗ v1 ⊗ v4 ⊖ v0 ⊗ v1 ⊗ v6 ⊖ r) tt
    ∙ ap (λ (t : ℤ). pos a *ℤ pos H *ℤ z -ℤ t *ℤ m -ℤ (Z *ℤ pos a -ℤ N *ℤ pos b)) (ap pos h)
    ∙ ring env (v0 ⊗ v1 ⊗ v4 ⊖ v2 ⊗ v3 ⊗ v6 ⊖ r) (v0 ⊗ (v1 ⊗ v4 ⊖ v5) ⊖ v2 ⊗ (v3 ⊗ v6 ⊖ v7)) tt in
    omega (
      arith,
      ap nat_abs e,
      nat_abs_minus (pos a *ℤ (pos H *ℤ z -ℤ Z)) (pos b *ℤ (pos S *ℤ m -ℤ N)),
      nat_abs_product (pos a) (pos H *ℤ z -ℤ Z),
      nat_abs_product (pos b) (pos S *ℤ m -ℤ N),
    )

-- the values without rounding stand over D = 10^24·n³
abbrev pub D : ℕ → ℕ
D n = 1_000_000_000_000_000_000_000_000 * cube n

module _ (n : ℕ) (a : Axis) (p : Place) (τ : ℤ) where
  abbrev pub m : Moment
  m = moment_by n a p τ

  unfoldable pub exact_u : ℤ
  exact_u = exactCubic n a.x τ *ℤ pos 1_000_000_000_000_000_000_000_000 -ℤ exact_ξ m *ℤ pos (cube n * 10_000_000_000_000_000)

  unfoldable pub exact_v : ℤ
  exact_v = exactCubic n a.y τ *ℤ pos 1_000_000_000_000_000_000_000_000 -ℤ exact_η m *ℤ pos (cube n * 100_000_000)

  unfoldable pub exact_L : Cone → ℤ
  exact_L k = exactQuadratic n k.l τ *ℤ pos 1_000_000_000_000_000_000_000_000 -ℤ exact_term m k *ℤ pos (cube n)

  module _ (some : 1 ≤ n) (t : nat_abs τ ≤ 3 * n) where
    pub u_error : nat_abs (pos (D n) *ℤ u m -ℤ exact_u) ≤ 7 * D n
    unfolding u exact_u ξ exact_ξ
    u_error =
        rw (still_cubic (cubic_by n a.x τ))
        (omega (
          arith,
          difference-error 1_000_000_000_000_000_000_000_000 (cube n) (cube n * 10_000_000_000_000_000) 100_000_000 (cubic_by n a.x τ) (exactCubic n a.x τ) (ξ m) (exact_ξ m) (omega arith),
          cubic-error n some τ t a.x,
          mul-le-mul_left (cube n * 10_000_000_000_000_000) (near-error (exact_ξ m) one (le_z_yes tt)),
        ))

    pub v_error : 2 * nat_abs (pos (D n) *ℤ v m -ℤ exact_v) ≤ 15 * D n
    unfolding v exact_v
    v_error =
        rw (still_cubic (cubic_by n a.y τ))
        (omega (
          arith,
          difference-error 1_000_000_000_000_000_000_000_000 (cube n) (cube n * 100_000_000) 10_000_000_000_000_000 (cubic_by n a.y τ) (exactCubic n a.y τ) (η m) (exact_η m) (omega arith),
          cubic-error n some τ t a.y,
          mul-le-mul_left (cube n * 100_000_000) (η-error m),
        ))

    -- of a cone, or of a cylinder, whose tangent is 0
    module _ (k : Cone) (f : nat_abs k.tanf ≤ 500000) where
      -- the cone's term within 0.505
      term-error : 1000 * nat_abs (one ³ *ℤ near (ζ m *ℤ k.tanf) one -ℤ exact_term m k) ≤ 505 * 1_000_000_000_000_000_000_000_000
      unfolding exact_term
      term-error =
          let w = near (ζ m *ℤ k.tanf) one in
          let e = ring (w ∷ ζ m ∷ exact_ζ m ∷ k.tanf ∷ []) (num 1000000000000000000000000 ⊗ v0 ⊖ v2 ⊗ v3)
          (num 10000000000000000 ⊗ (num 100000000 ⊗ v0 ⊖ v1 ⊗ v3) ⊕ v3 ⊗ (num 10000000000000000 ⊗ v1 ⊖ v2)) tt in
          omega (
            arith,
            ap nat_abs e,
            nat_abs_sum (one ² *ℤ (one *ℤ w -ℤ ζ m *ℤ k.tanf)) (k.tanf *ℤ (one ² *ℤ ζ m -ℤ exact_ζ m)),
            nat_abs_product (one ²) (one *ℤ w -ℤ ζ m *ℤ k.tanf),
            nat_abs_product k.tanf (one ² *ℤ ζ m -ℤ exact_ζ m),
            near-error (ζ m *ℤ k.tanf) one (le_z_yes tt),
            mul-le-mul f (ζ-error m),
          )

      L-error : 1000 * nat_abs (pos (D n) *ℤ L m (cone_by n k τ) -ℤ exact_L k) ≤ 2505 * D n
      unfolding L exact_L
      L-error =
          let w = near (ζ m *ℤ k.tanf) one in
          rw (still_quadratic (quadratic_by n k.l τ))
          (omega (
            arith,
            difference-error 1_000_000_000_000_000_000_000_000 (cube n) (cube n) 1_000_000_000_000_000_000_000_000 (quadratic_by n k.l τ) (exactQuadratic n k.l τ) w (exact_term m k) (omega arith),
            quadratic-error n some τ t k.l,
            mul-le-mul_left (cube n) term-error,
          ))

      pub approximate : (φ : Phase) → Approximate (D n) (u m) (v m) (edge φ (L m (cone_by n k τ))) exact_u exact_v (edge φ (exact_L k))
      approximate φ =
          record {
            some = mul-pos (lit≤ tt) (mul-pos (mul-pos some some) some);
            u_error = u_error;
            v_error = v_error;
            r_error = omega (arith, edge_apart φ (D n) (L m (cone_by n k τ)) (exact_L k), L-error);
          }

-- ---- 3,600 parts of an hour: demand 3's exact values
module _ (a : Axis) (p : Place) (τ : ℤ) where
  pub u-exact : exact_u 3600 a p τ ≡ Exact.exact_u (moment_of a p τ)
  unfolding exact_u Exact.exact_u exactCubic Exact.exact-cubic exact_ξ
  u-exact = rw (H-second τ a p) refl

  pub v-exact : exact_v 3600 a p τ ≡ Exact.exact_v (moment_of a p τ)
  unfolding exact_v Exact.exact_v exactCubic Exact.exact-cubic exact_η exact_q
  v-exact = rw (H-second τ a p, d-second τ a p) refl

  pub L-exact : (k : Cone) → exact_L 3600 a p τ k ≡ Exact.exact_L (moment_of a p τ) k
  unfolding exact_L Exact.exact_L exactQuadratic Exact.exact-quadratic exact_term exact_ζ exact_q
  L-exact k = rw (H-second τ a p, d-second τ a p) refl
