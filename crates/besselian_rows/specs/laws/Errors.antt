-- The theorem: the elements of an accepted row lie within 4 units and within 1,000 of the exact ones (`faithful`, at
-- the end).
use Rattle.std.proofs.Math.Path.{ap}
use Rattle.std.specs.Prelude.{[], ◌∷◌, ℕ, ◌+◌, ◌*◌, ◌≤◌, ℤ, neg_ℤ, ◌+ℤ◌, ◌-ℤ◌, ◌*ℤ◌, ◌≤ℤ◌}
use native.Mathlib.Omega.{arith}
use Rattle.std.proofs.Common.{mul-le-mul_left, lit≤}
use Rattle.std.proofs.Math.IntN.{pos, nat_abs}
use Rattle.std.specs.Int.Signed.{le_z_yes}
use Rattle.rounding.specs.laws.Order.{zs, nat_abs_sum, nat_abs_minus, nat_abs_opposite, nat_abs_product, nat_abs_product_le}
use Rattle.rounding.specs.laws.Ring.{num, ◌⊕◌, ◌⊖◌, ◌⊗◌, opp, ring, v0, v1, v2, v3, v4, v5}
use Rattle.rounding.proofs.laws.NearLaws.{near-error}
use Rattle.besselian_rows.specs.declared.besselian.Row.{Row}
use Rattle.besselian_rows.specs.declared.besselian.Radii.{Radii}
use Rattle.besselian_rows.specs.laws.CloseLaws.{close, product_close}
use Rattle.besselian_rows.specs.laws.ErrorSteps.{turn, flat_error, north-error, axis_error, root-error, slope_error, foot_error, sum-error, difference-error}
use Rattle.besselian_rows.specs.Exact.{◌², one, Gx, Gy, Gz, P, N, Q, C, S1, S2, RadiiInRange, Close, Faithful}
use Rattle.besselian_rows.specs.Rounded.{gx, gy, gz, flat, whole, r, R, cos-a, sin-a, sin_d, cos_d, x, q, y, z, millions, T, tan-f, slope, foot, elements_of}
use Rattle.besselian_rows.specs.AcceptedLaws.{Accepted, moon-sizes}
use Rattle.besselian_rows.specs.laws.AxisSizes
use Rattle.besselian_rows.specs.laws.Sizes
use Rattle.besselian_rows.specs.laws.Sizes.{IsRadii, penumbra, central}

module _ (p : Row) (h : Accepted p) where
  r-1 : pos 1 ≤ℤ pos (r p)
  r-1 = omega (arith, zs, AxisSizes.r-low p h)

  R-1 : pos 1 ≤ℤ pos (R p)
  R-1 = omega (arith, zs, AxisSizes.R-low p h)

  R-long : 1990000000 ≤ R p
  R-long = omega (arith, AxisSizes.R-low p h)

  cos-a-error : 2 * nat_abs (pos (r p) *ℤ cos-a p -ℤ gx p *ℤ one) ≤ r p
  unfolding cos-a
  cos-a-error = near-error (gx p *ℤ one) (pos (r p)) r-1

  sin-a-error : 2 * nat_abs (pos (r p) *ℤ sin-a p -ℤ gy p *ℤ one) ≤ r p
  unfolding sin-a
  sin-a-error = near-error (gy p *ℤ one) (pos (r p)) r-1

  sin-d-error : 2 * nat_abs (pos (R p) *ℤ sin_d p -ℤ gz p *ℤ one) ≤ R p
  unfolding sin_d
  sin-d-error = near-error (gz p *ℤ one) (pos (R p)) R-1

  cos-d-error : 2 * nat_abs (pos (R p) *ℤ cos_d p -ℤ pos (r p) *ℤ one) ≤ R p
  unfolding cos_d
  cos-d-error = near-error (pos (r p) *ℤ one) (pos (R p)) R-1

  -- ---- x
  x-step : 2 * nat_abs (one *ℤ x p -ℤ (p.moony *ℤ cos-a p +ℤ neg_ℤ p.moonx *ℤ sin-a p)) ≤ 100000000
  unfolding x
  x-step =
      omega (
        arith,
        near-error (p.moony *ℤ cos-a p -ℤ p.moonx *ℤ sin-a p) one (le_z_yes tt),
        ap nat_abs (ring (p.moonx ∷ p.moony ∷ cos-a p ∷ sin-a p ∷ x p ∷ []) (num 100000000 ⊗ v4 ⊖ (v1 ⊗ v2 ⊕ opp v0 ⊗ v3))
            (num 100000000 ⊗ v4 ⊖ (v1 ⊗ v2 ⊖ v0 ⊗ v3)) tt),
      )

  x-error : nat_abs (pos (1000 * r p) *ℤ x p -ℤ (p.moony *ℤ Gx p -ℤ p.moonx *ℤ Gy p)) ≤ 101250 * r p
  x-error =
      let neg : nat_abs (neg_ℤ p.moonx) ≤ 6500000000 = omega (arith, nat_abs_opposite p.moonx, (moon-sizes p h.moon).0) in
      omega (
        arith,
        flat_error (r p) (x p) p.moony (neg_ℤ p.moonx) (cos-a p) (sin-a p) (gx p) (gy p) (Gx p) (Gy p) (AxisSizes.r-low p h)
            (moon-sizes p h.moon).1 neg x-step cos-a-error sin-a-error (AxisSizes.gx-error p h) (AxisSizes.gy-error p h),
        ap nat_abs (ring (p.moonx ∷ p.moony ∷ Gx p ∷ Gy p ∷ x p ∷ pos (r p) ∷ []) (num 1000 ⊗ v5 ⊗ v4 ⊖ (v1 ⊗ v2 ⊕ opp v0 ⊗ v3))
            (num 1000 ⊗ v5 ⊗ v4 ⊖ (v1 ⊗ v2 ⊖ v0 ⊗ v3)) tt),
      )

  pub x-close : Close 1000 (x p) (p.moony *ℤ Gx p -ℤ p.moonx *ℤ Gy p) (P p)
  x-close =
      close (Sizes.P-bracket p h) 1000 (101250 * r p) (x p) (p.moony *ℤ Gx p -ℤ p.moonx *ℤ Gy p) x-error
      (omega (arith, Sizes.x-size p h, AxisSizes.r-low p h))

  -- ---- sin d, cos d
  pub sin-d-close : Close 4 (sin_d p) (pos 100000000 *ℤ Gz p) (N p)
  sin-d-close = close (Sizes.N-bracket p h) 4 (525 * R p) (sin_d p) (pos 100000000 *ℤ Gz p) err (omega (arith, Sizes.sin-d-size p h, AxisSizes.R-low p h))
    where
      err : nat_abs (pos (1000 * R p) *ℤ sin_d p -ℤ pos 100000000 *ℤ Gz p) ≤ 525 * R p
      err =
          let a = pos (R p) *ℤ sin_d p -ℤ gz p *ℤ one in
          let b = pos 1000 *ℤ gz p -ℤ Gz p in
          omega (
            arith,
            ap nat_abs (ring (pos (R p) ∷ sin_d p ∷ gz p ∷ Gz p ∷ []) (num 1000 ⊗ v0 ⊗ v1 ⊖ num 100000000 ⊗ v3)
                (num 1000 ⊗ (v0 ⊗ v1 ⊖ v2 ⊗ num 100000000) ⊕ num 100000000 ⊗ (num 1000 ⊗ v2 ⊖ v3)) tt),
            nat_abs_sum (pos 1000 *ℤ a) (pos 100000000 *ℤ b),
            nat_abs_product (pos 1000) a,
            nat_abs_product (pos 100000000) b,
            sin-d-error,
            AxisSizes.gz-error p h,
            AxisSizes.R-low p h,
          )

  P-root-error : nat_abs (pos (1000000 * (r p * r p)) -ℤ P p) ≤ 5000000 * r p
  P-root-error =
      let i = AxisSizes.r-root p h in
      omega (arith, root-error (P p) (flat p) (r p) (2000000 * r p + 500000) i.low (omega (arith, i.high)) (AxisSizes.P-error p h), AxisSizes.r-low p h)

  cos-d-step : nat_abs (pos (1000 * r p * (1000 * R p)) *ℤ cos_d p -ℤ one *ℤ P p) ≤ 750000 * (r p * R p)
  cos-d-step =
      let a = pos (R p) *ℤ cos_d p -ℤ pos (r p) *ℤ one in
      let b = pos (1000000 * (r p * r p)) -ℤ P p in
      omega (
        arith,
        ap nat_abs (ring (pos (r p) ∷ pos (R p) ∷ cos_d p ∷ P p ∷ []) (num 1000 ⊗ v0 ⊗ (num 1000 ⊗ v1) ⊗ v2 ⊖ num 100000000 ⊗ v3)
            (num 1000000 ⊗ v0 ⊗ (v1 ⊗ v2 ⊖ v0 ⊗ num 100000000) ⊕ num 100000000 ⊗ (num 1000000 ⊗ (v0 ⊗ v0) ⊖ v3)) tt),
        nat_abs_sum (pos (1000000 * r p) *ℤ a) (one *ℤ b),
        nat_abs_product (pos (1000000 * r p)) a,
        nat_abs_product one b,
        mul-le-mul_left (r p) cos-d-error,
        P-root-error,
        mul-le-mul_left (r p) (AxisSizes.R-low p h),
      )

  pub cos-d-close : Close 4 (cos_d p) (one *ℤ P p) (P p *ℤ N p)
  cos-d-close =
      product_close (Sizes.P-bracket p h) (Sizes.N-bracket p h) (AxisSizes.r-low p h) R-long 4 750000 100000000 (cos_d p) (one *ℤ P p)
      cos-d-step (Sizes.cos-d-size p h) (lit≤ tt)

  -- ---- y
  q-step : 2 * nat_abs (one *ℤ q p -ℤ (p.moonx *ℤ cos-a p +ℤ p.moony *ℤ sin-a p)) ≤ 100000000
  unfolding q
  q-step = near-error (p.moonx *ℤ cos-a p +ℤ p.moony *ℤ sin-a p) one (le_z_yes tt)

  q-error : nat_abs (pos (1000 * r p) *ℤ q p -ℤ Q p) ≤ 101250 * r p
  q-error =
      flat_error (r p) (q p) p.moonx p.moony (cos-a p) (sin-a p) (gx p) (gy p) (Gx p) (Gy p) (AxisSizes.r-low p h) (moon-sizes p h.moon).0
      (moon-sizes p h.moon).1 q-step cos-a-error sin-a-error (AxisSizes.gx-error p h) (AxisSizes.gy-error p h)

  y-step : 2 * nat_abs (one *ℤ y p -ℤ (p.moonz *ℤ cos_d p +ℤ neg_ℤ (q p) *ℤ sin_d p)) ≤ 100000000
  unfolding y
  y-step =
      omega (
        arith,
        near-error (p.moonz *ℤ cos_d p -ℤ q p *ℤ sin_d p) one (le_z_yes tt),
        ap nat_abs (ring (p.moonz ∷ cos_d p ∷ q p ∷ sin_d p ∷ y p ∷ []) (num 100000000 ⊗ v4 ⊖ (v0 ⊗ v1 ⊕ opp v2 ⊗ v3))
            (num 100000000 ⊗ v4 ⊖ (v0 ⊗ v1 ⊖ v2 ⊗ v3)) tt),
      )

  Q-size : nat_abs (Q p) ≤ 31284500000000000000000
  Q-size =
      omega (
        arith,
        nat_abs_sum (p.moonx *ℤ Gx p) (p.moony *ℤ Gy p),
        nat_abs_product_le p.moonx (Gx p) 6500000000 2406500000000 (moon-sizes p h.moon).0 (AxisSizes.Gx-size p h),
        nat_abs_product_le p.moony (Gy p) 6500000000 2406500000000 (moon-sizes p h.moon).1 (AxisSizes.Gy-size p h),
      )

  y-error : nat_abs (pos (1000 * r p * (1000 * R p)) *ℤ y p -ℤ (p.moonz *ℤ P p -ℤ Gz p *ℤ Q p)) ≤ 220000000 * (r p * R p)
  y-error =
      let neg : nat_abs (neg_ℤ (q p)) ≤ 13000000000 = omega (arith, nat_abs_opposite (q p), Sizes.q-size p h) in
      north-error (r p) (R p) (y p) p.moonz (q p) (gz p) (Gz p) (P p) (Q p) (AxisSizes.r-low p h) (AxisSizes.r-le p h) (moon-sizes p h.moon).2
      (AxisSizes.gz-le p h) Q-size
      (turn (R p) (y p) p.moonz (neg_ℤ (q p)) (cos_d p) (sin_d p) (pos (r p)) (gz p) (moon-sizes p h.moon).2 neg y-step cos-d-error sin-d-error)
      P-root-error (AxisSizes.gz-error p h) q-error

  pub y-close : Close 1000 (y p) (p.moonz *ℤ P p -ℤ Gz p *ℤ Q p) (P p *ℤ N p)
  y-close =
      product_close (Sizes.P-bracket p h) (Sizes.N-bracket p h) (AxisSizes.r-low p h) R-long 1000 220000000 19500000000 (y p)
      (p.moonz *ℤ P p -ℤ Gz p *ℤ Q p) y-error (Sizes.y-size p h) (lit≤ tt)

  -- ---- the cones
  z-step : 2 * nat_abs (one *ℤ z p -ℤ (p.moonz *ℤ sin_d p +ℤ q p *ℤ cos_d p)) ≤ 100000000
  unfolding z
  z-step = near-error (p.moonz *ℤ sin_d p +ℤ q p *ℤ cos_d p) one (le_z_yes tt)

  z-error : nat_abs (pos (1000 * R p) *ℤ z p -ℤ C p) ≤ 200875 * R p
  z-error =
      axis_error (r p) (R p) (z p) p.moonz (q p) (gz p) (Gz p) (Q p) (AxisSizes.r-low p h) (AxisSizes.r-le p h) (moon-sizes p h.moon).2
      (turn (R p) (z p) p.moonz (q p) (sin_d p) (cos_d p) (gz p) (pos (r p)) (moon-sizes p h.moon).2 (Sizes.q-size p h) z-step sin-d-error cos-d-error)
      (AxisSizes.gz-error p h) q-error

  N-root-error : nat_abs (pos (1000000 * (R p * R p)) -ℤ N p) ≤ 6000000 * R p
  N-root-error =
      let i = AxisSizes.R-root p h in
      omega (arith, root-error (N p) (whole p) (R p) (3000000 * R p + 750000) i.low (omega (arith, i.high)) (AxisSizes.N-error p h), AxisSizes.R-low p h)

  module _ (S s k : ℕ) (c : IsRadii S s k) where
    T-1 : pos 1 ≤ℤ pos (T p S s)
    T-1 = omega (arith, zs, Sizes.T-low p h S s k c)

    tan-error : 2 * nat_abs (pos (T p S s) *ℤ tan-f p S s -ℤ pos (S * 100000)) ≤ T p S s
    unfolding tan-f
    tan-error = near-error (pos (S * 100000)) (pos (T p S s)) T-1

    pub tan-close : Close 4 (tan-f p S s) (one *ℤ pos S) (N p -ℤ pos S ²)
    tan-close =
        close (Sizes.M-bracket p h S s k c) 4 (500 * T p S s) (tan-f p S s) (one *ℤ pos S) err
        (omega (arith, Sizes.tan-size p h S s k c, Sizes.T-low p h S s k c))
      where
        err : nat_abs (pos (1000 * T p S s) *ℤ tan-f p S s -ℤ one *ℤ pos S) ≤ 500 * T p S s
        err =
            omega (
              arith,
              ap nat_abs (ring (pos (T p S s) ∷ tan-f p S s ∷ pos S ∷ []) (num 1000 ⊗ v0 ⊗ v1 ⊖ num 100000000 ⊗ v2) (num 1000 ⊗ (v0 ⊗ v1 ⊖ v2 ⊗ num 100000)) tt),
              nat_abs_product (pos 1000) (pos (T p S s) *ℤ tan-f p S s -ℤ pos (S * 100000)),
              tan-error,
            )

    slope-step : 2 * nat_abs (one *ℤ slope p S s -ℤ z p *ℤ tan-f p S s) ≤ 100000000
    unfolding slope
    slope-step = near-error (z p *ℤ tan-f p S s) one (le_z_yes tt)

    foot-step : 2 * nat_abs (pos (T p S s) *ℤ foot p S s k -ℤ pos k *ℤ pos (R p)) ≤ T p S s
    unfolding foot
    foot-step = near-error (pos k *ℤ pos (R p)) (pos (T p S s)) T-1

    u_error : nat_abs (pos (1000 * R p * (1000 * T p S s)) *ℤ slope p S s -ℤ C p *ℤ pos S) ≤ 99150000 * (R p * T p S s)
    u_error = slope_error (R p) (T p S s) S (z p) (tan-f p S s) (slope p S s) (C p) (Sizes.T-low p h S s k c) c.radii
        (Sizes.z-size p h) slope-step tan-error z-error

    w-error : nat_abs (pos (1000 * R p * (1000 * T p S s)) *ℤ foot p S s k -ℤ pos k *ℤ N p) ≤ 600000 * (R p * T p S s)
    w-error = foot_error (R p) (T p S s) k (foot p S s k) (N p) (Sizes.T-low p h S s k c) c.moon foot-step N-root-error

    -- l, whichever its sign: within 1,000 of A/√(N (N − S²))
    l-close : (l A : ℤ) → nat_abs l ≤ 171600000
        → nat_abs (pos (1000 * R p * (1000 * T p S s)) *ℤ l -ℤ A) ≤ 99150000 * (R p * T p S s) + 600000 * (R p * T p S s)
        → Close 1000 l A (N p *ℤ (N p -ℤ pos S ²))
    l-close l A hl err =
        product_close (Sizes.N-bracket p h) (Sizes.M-bracket p h S s k c) (AxisSizes.R-low p h) (Sizes.T-low p h S s k c) 1000 99750000 171600000
        l A (omega (arith, err)) hl (lit≤ tt)

    pub plus-close : Close 1000 (slope p S s +ℤ foot p S s k) (C p *ℤ pos S +ℤ pos k *ℤ N p) (N p *ℤ (N p -ℤ pos S ²))
    plus-close =
        l-close (slope p S s +ℤ foot p S s k) (C p *ℤ pos S +ℤ pos k *ℤ N p)
        (omega (arith, nat_abs_sum (slope p S s) (foot p S s k), Sizes.slope_size p h S s k c, Sizes.foot_size p h S s k c))
        (sum-error (1000 * R p * (1000 * T p S s)) (99150000 * (R p * T p S s)) (600000 * (R p * T p S s)) (slope p S s) (foot p S s k) (C p *ℤ pos S)
        (pos k *ℤ N p) u_error w-error)

    pub minus-close : Close 1000 (slope p S s -ℤ foot p S s k) (C p *ℤ pos S -ℤ pos k *ℤ N p) (N p *ℤ (N p -ℤ pos S ²))
    minus-close =
        l-close (slope p S s -ℤ foot p S s k) (C p *ℤ pos S -ℤ pos k *ℤ N p)
        (omega (arith, nat_abs_minus (slope p S s) (foot p S s k), Sizes.slope_size p h S s k c, Sizes.foot_size p h S s k c))
        (difference-error (1000 * R p * (1000 * T p S s)) (99150000 * (R p * T p S s)) (600000 * (R p * T p S s)) (slope p S s) (foot p S s k) (C p *ℤ pos S)
        (pos k *ℤ N p) u_error w-error)

pub faithful : (k : Radii) → RadiiInRange k → (p : Row) → Accepted p → Faithful k p (elements_of k p)
unfolding elements_of
faithful k i p h =
    record {
      x = x-close p h;
      y = y-close p h;
      sin_d = sin-d-close p h;
      cos_d = cos-d-close p h;
      tan_f1 = tan-close p h (S1 k) (millions (S1 k)) k.penumbra (penumbra k i);
      tan_f2 = tan-close p h (S2 k) (millions (S2 k)) k.central (central k i);
      l1 = plus-close p h (S1 k) (millions (S1 k)) k.penumbra (penumbra k i);
      l2 = minus-close p h (S2 k) (millions (S2 k)) k.central (central k i);
    }
