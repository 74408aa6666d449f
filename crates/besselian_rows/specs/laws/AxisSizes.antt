-- How large the numbers of an accepted row are.
use Rattle.std.specs.Prelude.{◌≡◌, [], ◌∷◌, ℕ, ◌+◌, ◌*◌, ◌≤◌, ◌<◌, ℤ, neg_ℤ, ◌+ℤ◌, ◌-ℤ◌, ◌*ℤ◌, ◌≤ℤ◌}
use Rattle.std.proofs.Math.Path.{refl, ap}
use native.Mathlib.Omega.{arith}
use Rattle.std.proofs.Math.Nat.{mul-le-mul}
use Rattle.std.proofs.Common.{lt_of_not-le}
use Rattle.std.proofs.Math.IntN.{pos, nat_abs}
use Rattle.std.specs.Int.Signed.{le_z_yes}
use Rattle.rounding.specs.Parts.{sum, opposite}
use Rattle.rounding.specs.laws.Order.{≤-parts, le_nat_abs, neg_nat_abs, nat_abs_sum, nat_abs_minus, square_nat_abs}
use Rattle.rounding.specs.laws.Ring.{num, ◌⊕◌, ◌⊖◌, ◌⊗◌, opp, ring, v0, v1, v2, v3, v4, v5}
use Rattle.rounding.specs.laws.Cert.{leq, lit, sq, ◌⊞◌, ◌⊠◌, certify}
use Rattle.rounding.proofs.laws.NearLaws.{near-error, near-size}
use Rattle.rounding.specs.Root.{IsRoot}
use Rattle.rounding.specs.laws.RootLaws.{root_is}
use Rattle.besselian_rows.specs.declared.besselian.Row.{Row}
use Rattle.besselian_rows.specs.Exact.{◌², Gx, Gy, Gz, P, N}
use Rattle.besselian_rows.specs.Rounded.{gx, gy, gz, flat, whole, r, R}
use Rattle.besselian_rows.specs.AcceptedLaws.{Accepted, moon-sizes, sun-sizes, sun_low}
use Rattle.besselian_rows.specs.laws.ErrorSteps.{square-error}

-- s² ≤ (s − m)² + 2 A B, for |s| ≤ A and |m| ≤ B
apart : (s m : ℤ) (A B : ℕ) → nat_abs s ≤ A → nat_abs m ≤ B → s ² ≤ℤ ((s -ℤ m) ² +ℤ pos 2 *ℤ (pos A *ℤ pos B))
apart s m A B hs hm =
    certify 0 (s ∷ m ∷ pos A ∷ pos B ∷ []) (v0 ⊗ v0) ((v0 ⊖ v1) ⊗ (v0 ⊖ v1) ⊕ num 2 ⊗ (v2 ⊗ v3))
    (leq v0 v2 (le_nat_abs s hs) ⊠ leq (opp v3) v1 (neg_nat_abs m hm) ⊞ leq (opp v2) v0 (neg_nat_abs s hs) ⊠ leq v1 v3 (le_nat_abs m hm) ⊞ sq v1) tt

-- a² ≤ n < (r + 1)² gives a ≤ r
component : (a n r : ℕ) → a * a ≤ n → n < (r + 1) * (r + 1) → a ≤ r
component a n r h k = omega (arith, lt_of_not-le {n = r + 1} {m = a} (λ (g : r + 1 ≤ a). omega (arith, h, k, mul-le-mul g g)))

module _ (p : Row) (h : Accepted p) where
  pub Gx-size : nat_abs (Gx p) ≤ 2406500000000
  Gx-size = omega (arith, nat_abs_minus p.sunx p.moonx, (moon-sizes p h.moon).0, (sun-sizes p h.sun).0)

  pub Gy-size : nat_abs (Gy p) ≤ 2406500000000
  Gy-size = omega (arith, nat_abs_minus p.suny p.moony, (moon-sizes p h.moon).1, (sun-sizes p h.sun).1)

  pub Gz-size : nat_abs (Gz p) ≤ 2406500000000
  Gz-size = omega (arith, nat_abs_minus p.sunz p.moonz, (moon-sizes p h.moon).2, (sun-sizes p h.sun).2)

  -- |G|² is at least 5.19·10^24, and its part on the equator at least 4.23·10^24
  pub N-low : pos 5190000000000000000000000 ≤ℤ N p
  N-low =
      let e = p.sunx ∷ p.suny ∷ p.sunz ∷ Gx p ∷ Gy p ∷ Gz p ∷ [] in
      let a = num 2 ⊗ (num 2400000000000 ⊗ num 6500000000) in
      certify 0 e (num 5190000000000000000000000) (v3 ⊗ v3 ⊕ v4 ⊗ v4 ⊕ v5 ⊗ v5)
      (leq (num 5290000000000000000000000) (v0 ⊗ v0 ⊕ v1 ⊗ v1 ⊕ v2 ⊗ v2) (sun_low p h.sun)
      ⊞ leq (v0 ⊗ v0) (v3 ⊗ v3 ⊕ a) (apart p.sunx p.moonx 2400000000000 6500000000 (sun-sizes p h.sun).0 (moon-sizes p h.moon).0)
      ⊞ leq (v1 ⊗ v1) (v4 ⊗ v4 ⊕ a) (apart p.suny p.moony 2400000000000 6500000000 (sun-sizes p h.sun).1 (moon-sizes p h.moon).1)
      ⊞ leq (v2 ⊗ v2) (v5 ⊗ v5 ⊕ a) (apart p.sunz p.moonz 2400000000000 6500000000 (sun-sizes p h.sun).2 (moon-sizes p h.moon).2)
      ⊞ lit 6400000000000000000000) tt

  pub P-low : pos 4230000000000000000000000 ≤ℤ P p
  P-low =
      let e = (Gx p ² +ℤ Gy p ²) ∷ Gz p ² ∷ [] in
      certify 9999 e (num 4230000000000000000000000) v0
      (leq (num 10000 ⊗ v1) (num 1849 ⊗ (v0 ⊕ v1)) h.sine ⊞ lit 8151 ⊠ leq (num 5190000000000000000000000) (v0 ⊕ v1) N-low
      ⊞ lit 3690000000000000000000000) tt

  -- ---- the axis in thousands
  pub gx-error : nat_abs (pos 1000 *ℤ gx p -ℤ Gx p) ≤ 500
  unfolding gx
  gx-error = omega (arith, near-error (Gx p) (pos 1000) (le_z_yes tt))

  pub gy-error : nat_abs (pos 1000 *ℤ gy p -ℤ Gy p) ≤ 500
  unfolding gy
  gy-error = omega (arith, near-error (Gy p) (pos 1000) (le_z_yes tt))

  pub gz-error : nat_abs (pos 1000 *ℤ gz p -ℤ Gz p) ≤ 500
  unfolding gz
  gz-error = omega (arith, near-error (Gz p) (pos 1000) (le_z_yes tt))

  pub gx-size : nat_abs (gx p) ≤ 2406500000
  unfolding gx
  gx-size = near-size (Gx p) (pos 1000) 2406500000 (le_z_yes tt) Gx-size

  pub gy-size : nat_abs (gy p) ≤ 2406500000
  unfolding gy
  gy-size = near-size (Gy p) (pos 1000) 2406500000 (le_z_yes tt) Gy-size

  pub gz-size : nat_abs (gz p) ≤ 2406500000
  unfolding gz
  gz-size = near-size (Gz p) (pos 1000) 2406500000 (le_z_yes tt) Gz-size

  pub flat-high : flat p ≤ 11582484500000000000
  unfolding flat
  flat-high = omega (arith, mul-le-mul gx-size gx-size, mul-le-mul gy-size gy-size)

  pub whole-high : whole p ≤ 17373726750000000000
  unfolding whole
  whole-high = omega (arith, flat-high, mul-le-mul gz-size gz-size)

  pub r-root : IsRoot (flat p) (r p)
  unfolding r
  r-root = root_is (flat p) (omega (arith, flat-high))

  pub R-root : IsRoot (whole p) (R p)
  unfolding R
  R-root = root_is (whole p) (omega (arith, whole-high))

  -- the components are no longer than the lengths
  pub gx-le : nat_abs (gx p) ≤ r p
  unfolding flat
  gx-le = component (nat_abs (gx p)) (flat p) (r p) in-flat r-root.high
    where
      in-flat : nat_abs (gx p) * nat_abs (gx p) ≤ flat p
      in-flat = omega arith

  pub gy-le : nat_abs (gy p) ≤ r p
  unfolding flat
  gy-le = component (nat_abs (gy p)) (flat p) (r p) in-flat r-root.high
    where
      in-flat : nat_abs (gy p) * nat_abs (gy p) ≤ flat p
      in-flat = omega arith

  pub gz-le : nat_abs (gz p) ≤ R p
  unfolding whole
  gz-le = component (nat_abs (gz p)) (whole p) (R p) in_whole R-root.high
    where
      in_whole : nat_abs (gz p) * nat_abs (gz p) ≤ whole p
      in_whole = omega arith

  pub r-le : r p ≤ R p
  unfolding whole
  r-le = component (r p) (whole p) (R p) in_whole R-root.high
    where
      in_whole : r p * r p ≤ whole p
      in_whole = omega (arith, r-root.low)

  -- P and N in thousands squared
  pub P-error : nat_abs (P p -ℤ pos (1000000 * flat p)) ≤ 2000000 * r p + 500000
  unfolding flat
  P-error =
      let a = gx p in
      let b = gy p in
      let A = Gx p in
      let B = Gy p in
      let s : pos (1000000 * (nat_abs a * nat_abs a + nat_abs b * nat_abs b)) ≡ pos 1000000 *ℤ (a ² +ℤ b ²) = rw (square_nat_abs a, square_nat_abs b) refl in
      omega (
        arith,
        ap (λ (t : ℤ). nat_abs (P p -ℤ t)) s,
        ap nat_abs (ring (a ∷ b ∷ A ∷ B ∷ []) ((v2 ⊗ v2 ⊕ v3 ⊗ v3) ⊖ num 1000000 ⊗ (v0 ⊗ v0 ⊕ v1 ⊗ v1))
            ((v2 ⊗ v2 ⊖ num 1000000 ⊗ (v0 ⊗ v0)) ⊕ (v3 ⊗ v3 ⊖ num 1000000 ⊗ (v1 ⊗ v1))) tt),
        nat_abs_sum (A ² -ℤ pos 1000000 *ℤ a ²) (B ² -ℤ pos 1000000 *ℤ b ²),
        square-error A a gx-error,
        square-error B b gy-error,
        gx-le,
        gy-le,
      )

  pub N-error : nat_abs (N p -ℤ pos (1000000 * whole p)) ≤ 3000000 * R p + 750000
  unfolding whole
  N-error =
      let c = gz p in
      let Z = Gz p in
      let s : pos (1000000 * (flat p + nat_abs c * nat_abs c)) ≡ pos 1000000 *ℤ (pos (flat p) +ℤ c ²) = rw (square_nat_abs c) refl in
      omega (
        arith,
        ap (λ (t : ℤ). nat_abs (N p -ℤ t)) s,
        ap nat_abs (ring (P p ∷ pos (flat p) ∷ c ∷ Z ∷ []) ((v0 ⊕ v3 ⊗ v3) ⊖ num 1000000 ⊗ (v1 ⊕ v2 ⊗ v2))
            ((v0 ⊖ num 1000000 ⊗ v1) ⊕ (v3 ⊗ v3 ⊖ num 1000000 ⊗ (v2 ⊗ v2))) tt),
        nat_abs_sum (P p -ℤ pos (1000000 * flat p)) (Z ² -ℤ pos 1000000 *ℤ c ²),
        square-error Z c gz-error,
        P-error,
        gz-le,
        r-le,
      )

  -- the axis is longer than 2·10^9 thousands, also on the equator
  pub flat-low : 4000000000000000000 ≤ flat p
  flat-low =
      omega (
        arith,
        ≤-parts P-low,
        ≤-parts (le_nat_abs (P p -ℤ pos (1000000 * flat p)) P-error),
        (sum (P p) (neg_ℤ (pos (1000000 * flat p)))).is,
        (opposite (pos (1000000 * flat p))).is,
        r_small,
      )
    where
      r_small : r p ≤ 4300000000
      r_small = omega (arith, lt_of_not-le {n = 4300000001} {m = r p} (λ (g : 4300000001 ≤ r p). omega (arith, r-root.low, flat-high, mul-le-mul g g)))

  pub r-low : 2000000000 ≤ r p
  r-low = omega (
    arith,
    lt_of_not-le {n = r p} {m = 1999999999}
        (λ (g : r p ≤ 1999999999). omega (
          arith,
          r-root.high,
          flat-low,
          mul-le-mul {n₁ = r p + 1} {m₁ = r p + 1} {n₂ = 2000000000} {m₂ = 2000000000} (omega arith) (omega arith),
        )),
  )

  pub R-low : 2000000000 ≤ R p
  R-low = omega (arith, r-low, r-le)

  pub R-high : R p ≤ 4200000000
  R-high = omega (arith, lt_of_not-le {n = 4200000001} {m = R p} (λ (g : 4200000001 ≤ R p). omega (arith, R-root.low, whole-high, mul-le-mul g g)))
