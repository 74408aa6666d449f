-- What a row is that is accepted: the test says what it tests, and the coordinates are no longer than the distance.
use Rattle.std.specs.Prelude.{◌≡◌, true, ◌&&◌, [], ◌∷◌, ℕ, ◌+◌, ◌*◌, ◌≤◌, ℤ, pos, nat_abs, ◌+ℤ◌, ◌*ℤ◌, ◌≤ℤ◌}
use Rattle.std.proofs.Common.{subst, arith, mul-le-mul, lt_of_not-le}
use Rattle.std.specs.Int.Signed.{le_z}
use Rattle.rounding.specs.laws.Order.{≤-parts, square_nat_abs, le_z_true}
use Rattle.rounding.specs.laws.Tests.{both}
use Rattle.rounding.specs.laws.Ring.{◌⊕◌, ◌⊗◌, v0, v1, v2, v3}
use Rattle.rounding.specs.laws.Cert.{leq, sq, ◌⊞◌, certify}
use Rattle.besselian_rows.specs.declared.besselian.Row.{Row}
use Rattle.besselian_rows.specs.Exact.{◌², Gx, Gy, Gz, N, between, level, moon_distance, sun_distance, accepted}

-- z² ≤ m² gives |z| ≤ m
size_of_square : (z : ℤ) (m : ℕ) → z ² ≤ℤ pos (m * m) → nat_abs z ≤ m
size_of_square z m h =
    let s : nat_abs z * nat_abs z ≤ m * m = omega (arith, ≤-parts (subst (λ (t : ℤ). t ≤ℤ pos (m * m)) (square_nat_abs z) h)) in
    omega (arith, lt_of_not-le {n = m + 1} {m = nat_abs z} (λ (g : m + 1 ≤ nat_abs z). omega (arith, s, mul-le-mul g g)))

-- of three squares
three : (a b c : ℤ) (m : ℕ) → (a ² +ℤ b ² +ℤ c ²) ≤ℤ pos (m * m) → (nat_abs a ≤ m) × (nat_abs b ≤ m) × (nat_abs c ≤ m)
three a b c m h =
    let e = a ∷ b ∷ c ∷ pos (m * m) ∷ [] in
    let H = leq (v0 ⊗ v0 ⊕ v1 ⊗ v1 ⊕ v2 ⊗ v2) v3 h in (
      size_of_square a m (certify 0 e (v0 ⊗ v0) v3 (H ⊞ sq v1 ⊞ sq v2) tt),
      size_of_square b m (certify 0 e (v1 ⊗ v1) v3 (H ⊞ sq v0 ⊞ sq v2) tt),
      size_of_square c m (certify 0 e (v2 ⊗ v2) v3 (H ⊞ sq v0 ⊞ sq v1) tt),
    )

between_true : (x y z low high : ℤ) → between x y z low high ≡ true → (low ² ≤ℤ (x ² +ℤ y ² +ℤ z ²)) × ((x ² +ℤ y ² +ℤ z ²) ≤ℤ (high ²))
unfolding between
between_true x y z low high e =
    let s = x ² +ℤ y ² +ℤ z ² in
    let h = both (le_z (low ²) s) (le_z s (high ²)) e in
    (le_z_true (low ²) s h.0, le_z_true s (high ²) h.1)

between_sizes : (x y z low : ℤ) (m : ℕ) → between x y z low (pos m) ≡ true → (nat_abs x ≤ m) × (nat_abs y ≤ m) × (nat_abs z ≤ m)
between_sizes x y z low m e = three x y z m (between_true x y z low (pos m) e).1

module _ (p : Row) where
  pub record Accepted : Type 0 where
    pub moon : moon_distance p ≡ true
    pub sun : sun_distance p ≡ true
    pub sine : (pos 10000 *ℤ (Gz p ²)) ≤ℤ (pos 1849 *ℤ N p)

  pub accepted-is : accepted p ≡ true → Accepted
  unfolding accepted level
  accepted-is e =
      let a = both (moon_distance p) (sun_distance p && level (Gx p) (Gy p) (Gz p)) e in
      let b = both (sun_distance p) (level (Gx p) (Gy p) (Gz p)) a.1 in
      record { moon = a.0; sun = b.0; sine = le_z_true (pos 10000 *ℤ (Gz p ²)) (pos 1849 *ℤ N p) b.1 }

  -- the coordinates of the Moon and of the Sun, and the Sun's least distance
  pub moon-sizes : moon_distance p ≡ true → (nat_abs p.moonx ≤ 6500000000) × (nat_abs p.moony ≤ 6500000000) × (nat_abs p.moonz ≤ 6500000000)
  moon-sizes = between_sizes p.moonx p.moony p.moonz (pos 5500000000) 6500000000

  pub sun-sizes : sun_distance p ≡ true → (nat_abs p.sunx ≤ 2400000000000) × (nat_abs p.suny ≤ 2400000000000) × (nat_abs p.sunz ≤ 2400000000000)
  sun-sizes = between_sizes p.sunx p.suny p.sunz (pos 2300000000000) 2400000000000

  pub sun_low : sun_distance p ≡ true → pos 5290000000000000000000000 ≤ℤ (p.sunx ² +ℤ p.suny ² +ℤ p.sunz ²)
  sun_low h = (between_true p.sunx p.suny p.sunz (pos 2300000000000) (pos 2400000000000) h).0
