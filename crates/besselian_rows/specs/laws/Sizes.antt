-- How large the values of an accepted row are, and the brackets of its three roots.
use Rattle.std.specs.Prelude.{◌≡◌, [], ◌∷◌, ℕ, ◌+◌, ◌*◌, ◌-◌, ◌/◌, ◌≤◌, ℤ, neg_ℤ, nat_abs, ◌+ℤ◌, ◌-ℤ◌, ◌*ℤ◌}
use Rattle.std.proofs.Common.{ap, arith, mul-le-mul_left, lt_of_not-le, lit≤}
use Rattle.std.proofs.Math.Nat.{mul-le-mul}
use Rattle.std.proofs.Math.IntN.{pos}
use Rattle.std.specs.Int.Signed.{le_z_yes}
use Rattle.rounding.specs.Parts.{sum, opposite}
use Rattle.rounding.specs.laws.Order.{zs, nat_abs_by, nat_abs_sum, nat_abs_minus, nat_abs_product, nat_abs_product_le}
use Rattle.rounding.specs.laws.Ring.{◌⊕◌, ◌⊖◌, ◌⊗◌, ring, v0, v1, v2, v3}
use Rattle.rounding.specs.Near.{near}
use Rattle.rounding.proofs.laws.NearLaws.{near-size}
use Rattle.rounding.specs.Root.{IsRoot}
use Rattle.rounding.specs.laws.RootLaws.{root_is}
use Rattle.besselian_rows.specs.declared.besselian.Row.{Row}
use Rattle.besselian_rows.specs.declared.besselian.Radii.{Radii}
use Rattle.besselian_rows.specs.laws.CloseLaws.{Bracket, root_bracket}
use Rattle.besselian_rows.specs.Exact.{◌², one, P, N, S1, S2, document02, RadiiInRange}
use Rattle.besselian_rows.specs.Rounded.{millions, gx, gy, gz, flat, whole, r, R, cos-a, sin-a, sin_d, cos_d, x, q, y, z, T, tan-f, slope, foot}
use Rattle.besselian_rows.specs.AcceptedLaws.{Accepted, moon-sizes}
use Rattle.besselian_rows.specs.laws.AxisSizes

-- the sum or difference of the radii, its square in millions, and the Moon's radius
pub record IsRadii (S s k : ℕ) : Type 0 where
  pub radii : S ≤ 10957300000
  pub square : s ≤ 120062423290000
  pub near : nat_abs (pos S ² -ℤ pos (1000000 * s)) ≤ 500000
  pub moon : k ≤ 27300000

-- of radii in their ranges
in-millions : (S k : ℕ) → S ≤ 10957300000 → k ≤ 27300000 → IsRadii S (millions S) k
unfolding millions
in-millions S k h l =
    let q = (S * S + 500000) / 1000000 in
    record {
      radii = h;
      square = omega (arith, mul-le-mul h h);
      near =
          nat_abs_by (pos (S * S) -ℤ pos (1000000 * q))
          (omega (arith, (sum (pos (S * S)) (neg_ℤ (pos (1000000 * q)))).is, (opposite (pos (1000000 * q))).is))
          (omega (arith, (sum (pos (S * S)) (neg_ℤ (pos (1000000 * q)))).is, (opposite (pos (1000000 * q))).is));
      moon = l;
    }

pub penumbra : (k : Radii) → RadiiInRange k → IsRadii (S1 k) (millions (S1 k)) k.penumbra
penumbra k h = in-millions (S1 k) k.penumbra (omega (arith, h.sun_high, h.penumbra_high)) h.penumbra_high

pub central : (k : Radii) → RadiiInRange k → IsRadii (S2 k) (millions (S2 k)) k.central
central k h = in-millions (S2 k) k.central (omega (arith, h.sun_high)) h.central_high

pub ranged : RadiiInRange document02
ranged =
    record {
      sun_low = lit≤ tt;
      sun_high = lit≤ tt;
      penumbra_low = lit≤ tt;
      penumbra_high = lit≤ tt;
      central_low = lit≤ tt;
      central_high = lit≤ tt;
    }

-- the share of a length: |g| ≤ L
share-size : (g : ℤ) (L : ℕ) → 1 ≤ L → nat_abs g ≤ L → nat_abs (near (g *ℤ one) (pos L)) ≤ 100000000
share-size g L s h = near-size (g *ℤ one) (pos L) 100000000 (omega (arith, zs)) (omega (arith, nat_abs_product g one))

-- a sum or a difference of two products with sines, in units
pub turned-size : (w a b : ℤ) (A B : ℕ) → nat_abs a ≤ 100000000 * A → nat_abs b ≤ 100000000 * B → nat_abs w ≤ nat_abs a + nat_abs b → nat_abs (near w one) ≤ A + B
turned-size w a b A B ha hb hw = near-size w one (A + B) (le_z_yes tt) (omega arith)

module _ (p : Row) (h : Accepted p) where
  r_some : 1 ≤ r p
  r_some = omega (arith, AxisSizes.r-low p h)

  R-some : 1 ≤ R p
  R-some = omega (arith, AxisSizes.R-low p h)

  pub cos-a-size : nat_abs (cos-a p) ≤ 100000000
  unfolding cos-a
  cos-a-size = share-size (gx p) (r p) r_some (AxisSizes.gx-le p h)

  pub sin-a-size : nat_abs (sin-a p) ≤ 100000000
  unfolding sin-a
  sin-a-size = share-size (gy p) (r p) r_some (AxisSizes.gy-le p h)

  pub sin-d-size : nat_abs (sin_d p) ≤ 100000000
  unfolding sin_d
  sin-d-size = share-size (gz p) (R p) R-some (AxisSizes.gz-le p h)

  pub cos-d-size : nat_abs (cos_d p) ≤ 100000000
  unfolding cos_d
  cos-d-size = share-size (pos (r p)) (R p) R-some (AxisSizes.r-le p h)

  pub x-size : nat_abs (x p) ≤ 13000000000
  unfolding x
  x-size =
      turned-size (p.moony *ℤ cos-a p -ℤ p.moonx *ℤ sin-a p) (p.moony *ℤ cos-a p) (p.moonx *ℤ sin-a p) 6500000000 6500000000
      (omega (arith, nat_abs_product_le p.moony (cos-a p) 6500000000 100000000 (moon-sizes p h.moon).1 cos-a-size))
      (omega (arith, nat_abs_product_le p.moonx (sin-a p) 6500000000 100000000 (moon-sizes p h.moon).0 sin-a-size))
      (nat_abs_minus (p.moony *ℤ cos-a p) (p.moonx *ℤ sin-a p))

  pub q-size : nat_abs (q p) ≤ 13000000000
  unfolding q
  q-size =
      turned-size (p.moonx *ℤ cos-a p +ℤ p.moony *ℤ sin-a p) (p.moonx *ℤ cos-a p) (p.moony *ℤ sin-a p) 6500000000 6500000000
      (omega (arith, nat_abs_product_le p.moonx (cos-a p) 6500000000 100000000 (moon-sizes p h.moon).0 cos-a-size))
      (omega (arith, nat_abs_product_le p.moony (sin-a p) 6500000000 100000000 (moon-sizes p h.moon).1 sin-a-size))
      (nat_abs_sum (p.moonx *ℤ cos-a p) (p.moony *ℤ sin-a p))

  pub y-size : nat_abs (y p) ≤ 19500000000
  unfolding y
  y-size =
      turned-size (p.moonz *ℤ cos_d p -ℤ q p *ℤ sin_d p) (p.moonz *ℤ cos_d p) (q p *ℤ sin_d p) 6500000000 13000000000
      (omega (arith, nat_abs_product_le p.moonz (cos_d p) 6500000000 100000000 (moon-sizes p h.moon).2 cos-d-size))
      (omega (arith, nat_abs_product_le (q p) (sin_d p) 13000000000 100000000 q-size sin-d-size))
      (nat_abs_minus (p.moonz *ℤ cos_d p) (q p *ℤ sin_d p))

  pub z-size : nat_abs (z p) ≤ 19500000000
  unfolding z
  z-size =
      turned-size (p.moonz *ℤ sin_d p +ℤ q p *ℤ cos_d p) (p.moonz *ℤ sin_d p) (q p *ℤ cos_d p) 6500000000 13000000000
      (omega (arith, nat_abs_product_le p.moonz (sin_d p) 6500000000 100000000 (moon-sizes p h.moon).2 sin-d-size))
      (omega (arith, nat_abs_product_le (q p) (cos_d p) 13000000000 100000000 q-size cos-d-size))
      (nat_abs_sum (p.moonz *ℤ sin_d p) (q p *ℤ cos_d p))

  pub P-bracket : Bracket (1000 * r p) 5000 (P p)
  P-bracket = root_bracket (P p) (flat p) (r p) (AxisSizes.r-root p h) (omega (arith, AxisSizes.r-low p h))
      (omega (arith, AxisSizes.P-error p h, AxisSizes.r-low p h))

  pub N-bracket : Bracket (1000 * R p) 5000 (N p)
  N-bracket = root_bracket (N p) (whole p) (R p) (AxisSizes.R-root p h) (omega (arith, AxisSizes.R-low p h))
      (omega (arith, AxisSizes.N-error p h, AxisSizes.R-low p h))

  pub whole-low : 4000000000000000000 ≤ whole p
  unfolding whole
  whole-low = omega (arith, AxisSizes.flat-low p h)

  module _ (S s k : ℕ) (c : IsRadii S s k) where
    pub T-root : IsRoot (whole p - s) (T p S s)
    unfolding T
    T-root = root_is (whole p - s) (omega (arith, AxisSizes.whole-high p h))

    pub T-low : 1990000000 ≤ T p S s
    T-low =
        let t = T p S s in
        omega (
          arith,
          lt_of_not-le {n = t} {m = 1989999999} (λ (g : t ≤ 1989999999). omega
              (arith, T-root.high, whole-low, mul-le-mul {n₁ = t + 1} {m₁ = t + 1} {n₂ = 1990000000} {m₂ = 1990000000} (omega arith) (omega arith))),
        )

    -- R ≤ 2 T: else 4 T² + 4 T + 1 ≤ R² ≤ T² + 2 T + s
    pub R-twice : R p ≤ 2 * T p S s
    R-twice =
        let t = T p S s in
        omega (
          arith,
          lt_of_not-le {n = 2 * t + 1} {m = R p}
              (λ (g : 2 * t + 1 ≤ R p). omega (arith, T-root.high, (AxisSizes.R-root p h).low, whole-low, mul-le-mul g g, mul-le-mul_left t T-low, T-low)),
        )

    pub T-high : T p S s ≤ 4200000000
    T-high =
        let t = T p S s in
        omega (arith, lt_of_not-le {n = 4200000001} {m = t} (λ (g : 4200000001 ≤ t). omega (arith, T-root.low, AxisSizes.whole-high p h, mul-le-mul g g)))

    pub M-bracket : Bracket (1000 * T p S s) 5000 (N p -ℤ pos S ²)
    M-bracket = root_bracket (N p -ℤ pos S ²) (whole p - s) (T p S s) T-root (omega (arith, T-low)) (omega (arith, both, R-twice, T-low))
      where
        m : ℕ
        m = whole p - s

        parts : 1000000 * whole p ≡ 1000000 * (whole p - s) + 1000000 * s
        parts = omega (arith, whole-low)

        both : nat_abs (N p -ℤ pos S ² -ℤ pos (1000000 * (whole p - s))) ≤ 3000000 * R p + 1250000
        both =
            omega (
              arith,
              ap (λ (t : ℕ). nat_abs (N p -ℤ pos t)) parts,
              ap nat_abs (ring (N p ∷ pos S ∷ pos (1000000 * (whole p - s)) ∷ pos (1000000 * s) ∷ []) (v0 ⊖ v1 ⊗ v1 ⊖ v2)
                  ((v0 ⊖ (v2 ⊕ v3)) ⊖ (v1 ⊗ v1 ⊖ v3)) tt),
              nat_abs_minus (N p -ℤ (pos (1000000 * (whole p - s)) +ℤ pos (1000000 * s))) (pos S ² -ℤ pos (1000000 * s)),
              AxisSizes.N-error p h,
              c.near,
            )

    pub tan-size : nat_abs (tan-f p S s) ≤ 600000
    unfolding tan-f
    tan-size = near-size (pos (S * 100000)) (pos (T p S s)) 600000 (omega (arith, zs, T-low)) (omega (arith, T-low))

    pub slope_size : nat_abs (slope p S s) ≤ 117000000
    unfolding slope
    slope_size = near-size (z p *ℤ tan-f p S s) one 117000000 (le_z_yes tt)
        (omega (arith, nat_abs_product_le (z p) (tan-f p S s) 19500000000 600000 z-size tan-size))

    pub foot_size : nat_abs (foot p S s k) ≤ 54600000
    unfolding foot
    foot_size = near-size (pos k *ℤ pos (R p)) (pos (T p S s)) 54600000 (omega (arith, zs, T-low)) (omega (arith, mul-le-mul c.moon R-twice))
