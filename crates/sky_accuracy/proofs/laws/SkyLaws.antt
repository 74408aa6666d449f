-- What is known of the true sines, cosines and place at a part of an hour (`known`): the rule's H and d are rounded to
-- 2½ and 2 millionths of a degree, so the sines and cosines of H are 6.165 units off, those of d 5.29.
use Rattle.std.specs.Prelude.{◌≡◌, refl, Bool, [], ◌∷◌, ℕ, suc, ◌+◌, ◌*◌, ◌/◌, ◌≤◌, ◌<◌, T, leb, ℤ, negsuc, ◌+ℤ◌, ◌-ℤ◌, ◌*ℤ◌, ◌≤ℤ◌}
use Rattle.std.proofs.Common.{◌∙◌, mul-pos, leb→le, lit≤}
use Rattle.std.proofs.Math.Path.{ap}
use native.Mathlib.Omega.{arith}
use Rattle.std.proofs.Math.Nat.{le_of_mul-le-mul_left, mul-le-mul_left}
use Rattle.std.proofs.Math.IntN.{pos, neg_ℤ, nat_abs}
use Rattle.std.specs.Int.Signed.{le_z_yes}
use Rattle.rounding.specs.laws.Order.{nat_abs_sum, nat_abs_opposite, nat_abs_product, le_nat_abs}
use Rattle.rounding.specs.laws.Ring.{num, ◌⊕◌, ◌⊖◌, ◌⊗◌, opp, ring, v0, v1, v2, v3, v4, v5}
use Rattle.rounding.specs.laws.Cert.{leq, certify}
use Rattle.rounding.specs.Near.{near}
use Rattle.rounding.proofs.laws.NearLaws.{near-error}
use Rattle.sine_table.specs.Table.{factorial, numerator, denominator, common as tableCommon, term, series, S}
use Rattle.sine.specs.laws.FirstQuadrantLaws.{first-most}
use Rattle.sine_table.specs.laws.Computed.{up_to, at_up_to}
use Rattle.sine.specs.Sine.{sine, cosine}
use Rattle.sine.specs.laws.SineLaws.{sine-first, sine-size, cosine-size}
use Rattle.sine.specs.laws.OppositeLaws.{sine-opposite}
use Rattle.elements.specs.Sizes.{AxisSizes}
use Rattle.station.specs.Place.{turn_in, ephemeris_longitude, place_of}
use Rattle.station.specs.Sizes.{StationSizes}
use Rattle.shadow_geometry.specs.Shadow.{H, d}
use Rattle.sine_accuracy.specs.Series.{common}
use Rattle.sine_accuracy.specs.TrueSine.{true_sine, true_cosine}
use Rattle.sine_accuracy.proofs.laws.EveryAngle.{sine-everywhere, cosine-everywhere}
use Rattle.sine_accuracy.proofs.laws.AngleLaws.{sine-angle, cosine-angle}
use Rattle.sine_accuracy.proofs.laws.Circle.{circle}
use Rattle.sky_accuracy.specs.laws.Circle.{squares}
use Rattle.sky_accuracy.proofs.laws.PlaceErrors.{place-close, place_size}
use Rattle.sky_accuracy.specs.TrueShadow.{Sky, moment_of_sky, fine, d_rest, H_rest, K, sin_H, cos_H, sin_d, cos_d, Q, R, P}
use Rattle.sky_accuracy.specs.laws.Displacement.{Known}
use Rattle.contact_times.specs.Parts.{quadratic_by, cube, exactQuadratic}
use Rattle.contact_times.specs.laws.PartErrors.{still_quadratic, quadratic-size, quadratic-error}

-- ---- the sine up to 30.1 degrees
unfoldable low : ℕ → Bool
unfolding near factorial numerator denominator tableCommon term series S
low k = leb (S k) 50_200_000

lows : T (up_to low 302)
unfolding low
lows = tt

entry-low : (k : ℕ) → k < 302 → S k ≤ 50_200_000
unfolding low
entry-low k h = leb→le (S k) 50_200_000 (at_up_to low 302 lows k h)

sine_nat_abs : (z : ℤ) → nat_abs (sine z) ≡ nat_abs (sine (pos (nat_abs z)))
sine_nat_abs (pos m) = refl
sine_nat_abs (negsuc k) = ap nat_abs (sine-opposite (pos (suc k))) ∙ nat_abs_opposite (sine (pos (suc k)))

sine-low : (z : ℤ) → nat_abs z ≤ 30_100_000 → nat_abs (sine z) ≤ 50_400_000
sine-low z h =
    omega (
      arith,
      sine_nat_abs z,
      ap nat_abs (sine-first (nat_abs z) (omega arith)),
      first-most (nat_abs z) (omega arith),
      entry-low (nat_abs z / 100_000) (omega arith),
    )

-- ---- the rule's sine and cosine of any angle, on the circle
some : 1 ≤ common
unfolding common
some = leb→le 1 common tt

on_circle : (z : ℤ) → (sine z *ℤ sine z +ℤ cosine z *ℤ cosine z) ≤ℤ pos 10_000_000_800_000_000
on_circle z =
    certify 0 ((sine z *ℤ sine z +ℤ cosine z *ℤ cosine z) ∷ []) v0 (num 10_000_000_800_000_000)
    (leq (v0 ⊖ num 10_000_000_000_000_000) (num 800_000_000) (le_nat_abs _ (squares common some (sine z) (cosine z) (true_sine z) (true_cosine z)
    (record { small = sine-size z; close = (sine-everywhere z).within }) (record { small = cosine-size z; close = (cosine-everywhere z).within }) (record { on = circle z })))) tt

-- ---- a rest of at most b/2 f makes the error at most (358 + 175 b)/200
closer : (f w e K b : ℕ) → 1 ≤ f → 2 * w ≤ b * f → 100 * (f * e) ≤ (179 * f + 175 * w) * K → 200 * e ≤ (358 + 175 * b) * K
closer f w e K b h k l =
    le_of_mul-le-mul_left {m = 200 * e} {n = (358 + 175 * b) * K} {k = f} (omega (arith, mul-le-mul_left K k)) h

module _ (y : Sky) (some : 1 ≤ y.n) (t : nat_abs y.τ ≤ 3 * y.n) where
  d-is : d (moment_of_sky y) ≡ quadratic_by y.n y.axis.d y.τ
  d-is = still_quadratic (quadratic_by y.n y.axis.d y.τ)

  H-is : H (moment_of_sky y) ≡ quadratic_by y.n y.axis.mu y.τ +ℤ (place_of y.station).longitude
  unfolding H
  H-is = ap (λ (z : ℤ). z +ℤ (place_of y.station).longitude) (still_quadratic (quadratic_by y.n y.axis.mu y.τ))

  some-fine : 1 ≤ fine y
  some-fine = mul-pos (mul-pos (mul-pos some some) some) (lit≤ tt)

  d-size : nat_abs (d_rest y) ≤ 2 * fine y
  unfolding d_rest
  d-size =
      let q = quadratic_by y.n y.axis.d y.τ in
      let e = exactQuadratic y.n y.axis.d y.τ in
      let c = pos (cube y.n) in
      rw d-is
      (omega (
        arith,
        ap nat_abs (ring (q ∷ e ∷ c ∷ []) (v1 ⊗ num 10_000 ⊖ v2 ⊗ num 10_000 ⊗ v0) (num 10_000 ⊗ (opp (v2 ⊗ v0 ⊖ v1))) tt),
        nat_abs_product (pos 10_000) (neg_ℤ (c *ℤ q -ℤ e)),
        nat_abs_opposite (c *ℤ q -ℤ e),
        quadratic-error y.n some y.τ t y.axis.d,
      ))

  H-size : 2 * nat_abs (H_rest y) ≤ 5 * fine y
  unfolding H_rest place_of ephemeris_longitude turn_in
  H-size =
      let q = quadratic_by y.n y.axis.mu y.τ in
      let e = exactQuadratic y.n y.axis.mu y.τ in
      let c = pos (cube y.n) in
      let ΔT = y.station.deltat in
      let l = y.station.longitude in
      let a = near (ΔT *ℤ pos 417807) (pos 10000) in
      let f = pos 10_000 *ℤ (c *ℤ q -ℤ e) in
      let g = c *ℤ (pos 10_000 *ℤ a -ℤ ΔT *ℤ pos 417_807) in
      let s : e *ℤ pos 10_000 +ℤ l *ℤ pos (fine y) -ℤ ΔT *ℤ pos 417_807 *ℤ c -ℤ pos (fine y) *ℤ (q +ℤ (l -ℤ a)) ≡ neg_ℤ f +ℤ g = ring (q ∷ e ∷ ΔT ∷ l ∷ a ∷ c ∷ [])
      (v1 ⊗ num 10_000 ⊕ v3 ⊗ (v5 ⊗ num 10_000) ⊖ v2 ⊗ num 417_807 ⊗ v5 ⊖ v5 ⊗ num 10_000 ⊗ (v0 ⊕ (v3 ⊖ v4)))
      (opp (num 10_000 ⊗ (v5 ⊗ v0 ⊖ v1)) ⊕ v5 ⊗ (num 10_000 ⊗ v4 ⊖ v2 ⊗ num 417_807)) tt in
      rw H-is
      (omega (
        arith,
        ap nat_abs s,
        nat_abs_sum (neg_ℤ f) g,
        nat_abs_opposite f,
        nat_abs_product (pos 10_000) (c *ℤ q -ℤ e),
        nat_abs_product c (pos 10_000 *ℤ a -ℤ ΔT *ℤ pos 417_807),
        quadratic-error y.n some y.τ t y.axis.mu,
        mul-le-mul_left (cube y.n) (near-error (ΔT *ℤ pos 417807) (pos 10000) (le_z_yes tt)),
      ))

  -- 6.165 and 5.29
  H-close : (s S : ℤ) → 100 * (fine y * nat_abs (pos (K y) *ℤ s -ℤ pos 100_000_000 *ℤ S)) ≤ (179 * fine y + 175 * nat_abs (H_rest y)) * K y
      → 1000 * nat_abs (pos (K y) *ℤ s -ℤ pos 100_000_000 *ℤ S) ≤ 6165 * K y
  H-close s S h = omega (arith, closer (fine y) (nat_abs (H_rest y)) (nat_abs (pos (K y) *ℤ s -ℤ pos 100_000_000 *ℤ S)) (K y) 5 some-fine H-size h)

  d-close : (s S : ℤ) → 100 * (fine y * nat_abs (pos (K y) *ℤ s -ℤ pos 100_000_000 *ℤ S)) ≤ (179 * fine y + 175 * nat_abs (d_rest y)) * K y
      → 100 * nat_abs (pos (K y) *ℤ s -ℤ pos 100_000_000 *ℤ S) ≤ 529 * K y
  d-close s S h =
      omega (arith, closer (fine y) (nat_abs (d_rest y)) (nat_abs (pos (K y) *ℤ s -ℤ pos 100_000_000 *ℤ S)) (K y) 4 some-fine (omega (arith, d-size)) h)

  module _ (z : AxisSizes 30000000 y.axis) (i : StationSizes y.station) where
    pub known : Known (K y) (Q y) (sine (H (moment_of_sky y))) (cosine (H (moment_of_sky y))) (sine (d (moment_of_sky y))) (cosine (d (moment_of_sky y))) (sin_H y) (cos_H y)
        (sin_d y) (cos_d y) (place_of y.station).r (place_of y.station).p (R y) (P y)
    unfolding place_of
    known =
        let h = H (moment_of_sky y) in
        let e = d (moment_of_sky y) in
        let hw : nat_abs (H_rest y) ≤ 3 * fine y = omega (arith, H-size) in
        let dw : nat_abs (d_rest y) ≤ 3 * fine y = omega (arith, d-size) in
        record {
          s_h_small = sine-size h;
          c_h_small = cosine-size h;
          sd_small = sine-low e (omega (arith, ap nat_abs d-is, quadratic-size y.n some y.axis.d z.d y.τ t));
          cd_small = cosine-size e;
          s_h_close = H-close (sine h) (sin_H y) (sine-angle (fine y) h (H_rest y) hw);
          c_h_close = H-close (cosine h) (cos_H y) (cosine-angle (fine y) h (H_rest y) hw);
          sd_close = d-close (sine e) (sin_d y) (sine-angle (fine y) e (d_rest y) dw);
          cd_close = d-close (cosine e) (cos_d y) (cosine-angle (fine y) e (d_rest y) dw);
          H_circle = on_circle h;
          d_circle = on_circle e;
          R_close = (place-close y.station.latitude y.station.height i.latitude i.height y.C).R;
          P_close = (place-close y.station.latitude y.station.height i.latitude i.height y.C).P;
          place_size = place_size y.station.latitude y.station.height i.latitude i.height y.C;
        }
