-- What is said at a part of an hour under a guard of 32 units or more is true: inside is truly inside (`truly-inside`),
-- outside is truly outside (`truly-outside`), and an unsure one lies within the guard and 32 units of the true edge
-- (`truly-near`). Why: u, v and L are known to 13 units from values without rounding (ShadowErrors); that exact point
-- is at most 18.818 units from the true one (Displacement), and the exact L at most 0.1235 from the true L
-- (`moved_here`); and so by Moved.
use Rattle.std.specs.Prelude.{◌≡◌, refl, [], ◌∷◌, ℕ, ◌*◌, ◌≤◌, ℤ, ◌+ℤ◌, ◌-ℤ◌, ◌*ℤ◌, ◌≤ℤ◌}
use Rattle.std.proofs.Math.Path.{sym, ap}
use Rattle.std.proofs.Common.{◌∙◌, le_of_eq, lit≤, leb→le}
use Rattle.std.proofs.Math.Nat.{mul-pos}
use Rattle.std.proofs.Math.IntN.{pos, nat_abs}
use Rattle.sheet_types.specs.declared.phases.Phase.{Phase}
use Rattle.sheet_types.specs.declared.phases.Phase.TheVariants.{Penumbra, Central, Star}
use Rattle.sheet_types.specs.States.{inside, outside, unsure}
use Rattle.rounding.specs.laws.Order.{nat_abs_product, le_nat_abs, neg_nat_abs}
use Rattle.rounding.specs.laws.Ring.{var, num, ◌⊕◌, ◌⊖◌, ◌⊗◌, opp, ring, v0, v1, v2, v3, v4, v5, v6, v7, v8, v9}
use Rattle.rounding.specs.laws.Cert.{fact, leq, lit, sq, ◌⊞◌, ◌⊠◌, certify}
use Rattle.sine_table.specs.Table.{factorial}
use Rattle.sine.specs.Sine.{sine, cosine}
use Rattle.elements.specs.declared.Cone.{Cone}
use Rattle.elements.specs.Sizes.{AxisSizes}
use Rattle.station.specs.Place.{place_of}
use Rattle.station.specs.Sizes.{StationSizes}
use Rattle.shadow_geometry.specs.Shadow.{◌², H, d, L, M, edge, state}
use Rattle.shadow_geometry.specs.Exact.{exact_q, exact_ξ, exact_η, exact_ζ, exact_term}
use Rattle.shadow_geometry.proofs.Thirteen.{edge_apart}
use Rattle.sine_accuracy.specs.Series.{denominator, common}
use Rattle.sine_accuracy.specs.Angles.{angle_common, rest_common}
use Rattle.sky_accuracy.specs.TruePlace.{place_common}
use Rattle.sky_accuracy.specs.laws.Latitude.{up, natural}
use Rattle.sky_accuracy.specs.laws.Displacement.{east, north, along, moved, deep}
use Rattle.contact_times.specs.Parts.{cone_by, cube, exactQuadratic, exactCubic}
use Rattle.sky_accuracy.specs.TrueShadow.{Sky, moment_of_sky, K, sin_H, cos_H, sin_d, cos_d, Q, R, P, T, true_ξ, true_η, true_ζ, true_u, true_v, true_L, true_edge, TrulyInside, TrulyWithinUnits}
use Rattle.sky_accuracy.specs.laws.ShadowErrors as Errors
use Rattle.sky_accuracy.specs.laws.ShadowErrors.{D, exact_u, exact_v, exact_L, approximate}
use Rattle.sky_accuracy.proofs.laws.SkyLaws.{known}
use Rattle.sky_accuracy.proofs.laws.Moved.{Moved, inside-true, outside-true, unsure-true}

some_denominator : 1 ≤ denominator
unfolding denominator
some_denominator = leb→le 1 denominator tt

some_common : 1 ≤ common
unfolding common denominator factorial
some_common = leb→le 1 common tt

swap : (a b c d : ℤ) → a *ℤ b -ℤ c *ℤ d ≡ b *ℤ a -ℤ d *ℤ c
swap a b c d = ring (a ∷ b ∷ c ∷ d ∷ []) (v0 ⊗ v1 ⊖ v2 ⊗ v3) (v1 ⊗ v0 ⊖ v3 ⊗ v2) tt

-- k times an edge is the edge of k times
pub edge-times : (φ : Phase) (k : ℕ) (l : ℤ) → edge φ (pos k *ℤ l) ≡ pos k *ℤ edge φ l
edge-times Penumbra k l = refl
edge-times Star k l = refl
edge-times Central k l = ap pos (nat_abs_product (pos k) l)

module _ (y : Sky) where
  abbrev X : ℕ
  X = cube y.n

  abbrev sH : ℤ
  sH = sine (H (moment_of_sky y))

  abbrev cH : ℤ
  cH = cosine (H (moment_of_sky y))

  abbrev sd : ℤ
  sd = sine (d (moment_of_sky y))

  abbrev cd : ℤ
  cd = cosine (d (moment_of_sky y))

  abbrev r : ℤ
  r = (place_of y.station).r

  abbrev p : ℤ
  p = (place_of y.station).p

  -- the values without rounding, from the rule's sines and place
  abbrev eu : ℤ
  eu = exact_u y.n y.axis (place_of y.station) y.τ

  abbrev ev : ℤ
  ev = exact_v y.n y.axis (place_of y.station) y.τ

  abbrev eL : Cone → ℤ
  eL k = exact_L y.n y.axis (place_of y.station) y.τ k

  -- n⁶·10^16, which makes D·T of 10^16·Q·K²
  abbrev h : ℤ
  h = pos 10_000_000_000_000_000 *ℤ (pos X *ℤ pos X)

  -- u, v and L over D·T: the exact ones less the true ones
  u-apart : eu *ℤ pos (T y) -ℤ true_u y *ℤ pos (D y.n) ≡ h *ℤ east (K y) (Q y) sH (sin_H y) r (R y)
  unfolding exact_u exact_ξ true_u true_ξ east
  u-apart =
      ring (pos (Q y) ∷ pos (K y) ∷ exactCubic y.n y.axis.x y.τ ∷ sH ∷ sin_H y ∷ r ∷ R y ∷ pos X ∷ [])
      ((v2 ⊗ num 1_000_000_000_000_000_000_000_000 ⊖ v5 ⊗ v3 ⊗ (v7 ⊗ num 10_000_000_000_000_000)) ⊗ (v7 ⊗ num 100_000_000 ⊗ (v0 ⊗ v1 ⊗ v1))
      ⊖ (v2 ⊗ (v0 ⊗ v1 ⊗ v1) ⊖ v6 ⊗ v4 ⊗ v1 ⊗ v7) ⊗ num 100_000_000 ⊗ (num 1_000_000_000_000_000_000_000_000 ⊗ v7))
      (num 10_000_000_000_000_000 ⊗ (v7 ⊗ v7) ⊗ (num 100_000_000 ⊗ v1 ⊗ (v6 ⊗ v4 ⊗ num 100_000_000 ⊖ v5 ⊗ v3 ⊗ (v0 ⊗ v1)))) tt

  v-apart : ev *ℤ pos (T y) -ℤ true_v y *ℤ pos (D y.n) ≡ h *ℤ north (K y) (Q y) cH sd cd (cos_H y) (sin_d y) (cos_d y) r p (R y) (P y)
  unfolding exact_v exact_η exact_q true_v true_η north
  v-apart =
      ring (pos (Q y) ∷ pos (K y) ∷ exactCubic y.n y.axis.y y.τ ∷ cH ∷ sd ∷ cd ∷ cos_H y ∷ sin_d y ∷ cos_d y ∷ r ∷ p ∷ R y ∷ P y ∷ pos X ∷ [])
      ((v2 ⊗ num 1_000_000_000_000_000_000_000_000 ⊖ (var 10 ⊗ v5 ⊗ num 100_000_000
      ⊖ v9 ⊗ v3 ⊗ v4) ⊗ (var 13 ⊗ num 100_000_000)) ⊗ (var 13 ⊗ num 100_000_000 ⊗ (v0 ⊗ v1 ⊗ v1))
      ⊖ (v2 ⊗ (v0 ⊗ v1 ⊗ v1) ⊖ (var 12 ⊗ v8 ⊗ v1 ⊖ var 11 ⊗ v6 ⊗ v7) ⊗ var 13) ⊗ num 100_000_000 ⊗ (num 1_000_000_000_000_000_000_000_000 ⊗ var 13))
      (num 10_000_000_000_000_000 ⊗ (var 13 ⊗ var 13) ⊗ (num 10_000_000_000_000_000 ⊗ (var 12 ⊗ v8 ⊗ v1 ⊖ var 11 ⊗ v6 ⊗ v7) ⊖ (var 10 ⊗ v5 ⊗ num 100_000_000
      ⊖ v9 ⊗ v3 ⊗ v4) ⊗ (v0 ⊗ v1 ⊗ v1))) tt

  L-apart : (k : Cone) → pos 100_000_000 *ℤ (eL k *ℤ pos (T y) -ℤ true_L y k *ℤ pos (D y.n))
      ≡ h *ℤ (along (K y) (Q y) cH sd cd (cos_H y) (sin_d y) (cos_d y) r p (R y) (P y) *ℤ k.tanf)
  unfolding exact_L exact_term exact_ζ exact_q true_L true_ζ along
  L-apart k =
      ring (pos (Q y) ∷ pos (K y) ∷ exactQuadratic y.n k.l y.τ ∷ cH ∷ sd ∷ cd ∷ cos_H y ∷ sin_d y ∷ cos_d y ∷ r ∷ p ∷ R y ∷ P y ∷ k.tanf ∷ pos X ∷ [])
      (num 100_000_000 ⊗ ((v2 ⊗ num 1_000_000_000_000_000_000_000_000 ⊖ (var 10 ⊗ v4 ⊗ num 100_000_000
      ⊕ v9 ⊗ v3 ⊗ v5) ⊗ var 13 ⊗ var 14) ⊗ (var 14 ⊗ num 100_000_000 ⊗ (v0 ⊗ v1 ⊗ v1))
      ⊖ (v2 ⊗ (v0 ⊗ v1 ⊗ v1) ⊗ num 100_000_000 ⊖ (var 12 ⊗ v7 ⊗ v1 ⊕ var 11 ⊗ v6 ⊗ v8) ⊗ var 13 ⊗ var 14) ⊗ (num 1_000_000_000_000_000_000_000_000 ⊗ var 14)))
      (num 10_000_000_000_000_000 ⊗ (var 14 ⊗ var 14) ⊗ ((num 10_000_000_000_000_000 ⊗ (var 12 ⊗ v7 ⊗ v1 ⊕ var 11 ⊗ v6 ⊗ v8) ⊖ (var 10 ⊗ v4 ⊗ num 100_000_000
      ⊕ v9 ⊗ v3 ⊗ v5) ⊗ (v0 ⊗ v1 ⊗ v1)) ⊗ var 13)) tt

  module _ (some : 1 ≤ y.n) (t : nat_abs y.τ ≤ 3 * y.n) (z : AxisSizes 30000000 y.axis) (i : StationSizes y.station) where
    -- D·T is not 0
    some-X : 1 ≤ X
    some-X = mul-pos (mul-pos some some) some

    some_K : 1 ≤ K y
    unfolding angle_common rest_common
    some_K =
        let f = mul-pos some_denominator (mul-pos some-X (lit≤ tt)) in
        mul-pos some_common (mul-pos (mul-pos (lit≤ tt) f) f)

    some-Q : 1 ≤ Q y
    unfolding place_common
    some-Q = mul-pos (mul-pos (lit≤ tt) y.C.some) some_common

    W : ℤ
    W = pos (D y.n) *ℤ pos (T y)

    some_W : pos 1 ≤ℤ W
    unfolding W
    some_W = up (mul-pos (mul-pos (lit≤ tt) some-X) (mul-pos (mul-pos some-X (lit≤ tt)) (mul-pos (mul-pos some-Q some_K) some_K)))

    -- 1000 times the distance of the points is at most 18,818
    points : ((pos 1000 *ℤ (eu *ℤ pos (T y) -ℤ true_u y *ℤ pos (D y.n))) ² +ℤ (pos 1000 *ℤ (ev *ℤ pos (T y) -ℤ true_v y *ℤ pos (D y.n))) ²) ≤ℤ ((pos 18_818 *ℤ W) ²)
    unfolding W
    points =
        let a = east (K y) (Q y) sH (sin_H y) r (R y) in
        let b = north (K y) (Q y) cH sd cd (cos_H y) (sin_d y) (cos_d y) r p (R y) (P y) in
        let g = num 1_881_800_000_000 ⊗ (v2 ⊗ (num 100_000_000 ⊗ (v3 ⊗ v3))) in
        let e = num 10_000_000_000_000_000 ⊗ (v4 ⊗ v4) in
        let w = num 18_818 ⊗ (num 1_000_000_000_000_000_000_000_000 ⊗ v4 ⊗ (v4 ⊗ num 100_000_000 ⊗ (v2 ⊗ v3 ⊗ v3))) in
        rw (u-apart, v-apart)
        (certify 0 (a ∷ b ∷ pos (Q y) ∷ pos (K y) ∷ pos X ∷ [])
        (num 1000 ⊗ (e ⊗ v0) ⊗ (num 1000 ⊗ (e ⊗ v0)) ⊕ num 1000 ⊗ (e ⊗ v1) ⊗ (num 1000 ⊗ (e ⊗ v1)))
        (w ⊗ w)
        (sq e ⊠ leq (num 1000 ⊗ v0 ⊗ (num 1000 ⊗ v0) ⊕ num 1000 ⊗ v1 ⊗ (num 1000 ⊗ v1)) (g ⊗ g) (moved (known y some t z i))) tt)

    -- ---- a cone
    module _ (k : Cone) (f : nat_abs k.tanf ≤ 500000) where
      L-off : ℤ
      L-off = eL k *ℤ pos (T y) -ℤ true_L y k *ℤ pos (D y.n)

      size_is : 100_000_000 * nat_abs L-off
          ≡ 10_000_000_000_000_000 * (X * X) * (nat_abs (along (K y) (Q y) cH sd cd (cos_H y) (sin_d y) (cos_d y) r p (R y) (P y)) * nat_abs k.tanf)
      unfolding L-off
      size_is =
          let a = along (K y) (Q y) cH sd cd (cos_H y) (sin_d y) (cos_d y) r p (R y) (P y) in
          sym (nat_abs_product (pos 100_000_000) L-off) ∙ ap nat_abs (L-apart k) ∙ nat_abs_product h (a *ℤ k.tanf)
          ∙ ap (λ (z : ℕ). 10_000_000_000_000_000 * (X * X) * z) (nat_abs_product a k.tanf)

      L-size : (pos 10_000 *ℤ pos (nat_abs L-off)) ≤ℤ (pos 1235 *ℤ W)
      unfolding W
      L-size =
          let a = along (K y) (Q y) cH sd cd (cos_H y) (sin_d y) (cos_d y) r p (R y) (P y) in
          certify 99_999_999_999 (pos (nat_abs L-off) ∷ pos (nat_abs a) ∷ pos (nat_abs k.tanf) ∷ pos (Q y) ∷ pos (K y) ∷ pos X ∷ [])
          (num 10_000 ⊗ v0) (num 1235 ⊗ (num 1_000_000_000_000_000_000_000_000 ⊗ v5 ⊗ (v5 ⊗ num 100_000_000 ⊗ (v3 ⊗ v4 ⊗ v4))))
          (lit 10_000_000 ⊠ leq (num 100_000_000 ⊗ v0) (num 10_000_000_000_000_000 ⊗ (v5 ⊗ v5) ⊗ (v1 ⊗ v2)) (up (le_of_eq size_is))
          ⊞ lit 100_000_000_000_000_000_000 ⊠ sq v5 ⊠ fact v2 (natural (nat_abs k.tanf)) ⊠ leq (num 1000 ⊗ v1)
          (num 247_000_000_000_000_000_000 ⊗ (v3 ⊗ (v4 ⊗ v4))) (up (deep (known y some t z i)))
          ⊞ lit 24_700_000_000_000_000_000_000_000_000_000_000_000_000 ⊠ sq v5 ⊠ fact v3 (natural (Q y)) ⊠ sq v4 ⊠ leq v2 (num 500_000) (up f)) tt

      module _ (φ : Phase) where
        Ke : ℤ
        Ke = edge φ (eL k)

        Kt : ℤ
        Kt = true_edge φ y k

        edge-size : nat_abs (pos (T y) *ℤ Ke -ℤ pos (D y.n) *ℤ Kt) ≤ nat_abs L-off
        unfolding Ke Kt L-off
        edge-size =
            rw (← edge-times φ (D y.n) (true_L y k), swap (eL k) (pos (T y)) (true_L y k) (pos (D y.n)))
            (edge_apart φ (T y) (eL k) (pos (D y.n) *ℤ true_L y k))

        pub moved_here : Moved (D y.n) (T y) eu ev (edge φ (eL k)) (true_u y) (true_v y) (true_edge φ y k)
        unfolding Ke Kt W
        moved_here =
            let o = pos (T y) *ℤ Ke -ℤ pos (D y.n) *ℤ Kt in
            record {
              some_W = some_W;
              points = points;
              edge_high =
                  certify 0 (o ∷ pos (nat_abs L-off) ∷ W ∷ []) (num 10_000 ⊗ v0) (num 1235 ⊗ v2)
                  (lit 10_000 ⊠ leq v0 v1 (le_nat_abs o edge-size) ⊞ leq (num 10_000 ⊗ v1) (num 1235 ⊗ v2) L-size) tt;
              edge_low =
                  certify 0 (o ∷ pos (nat_abs L-off) ∷ W ∷ []) (opp (num 1235 ⊗ v2)) (num 10_000 ⊗ v0)
                  (lit 10_000 ⊠ leq (opp v1) v0 (neg_nat_abs o edge-size) ⊞ leq (num 10_000 ⊗ v1) (num 1235 ⊗ v2) L-size) tt;
            }

        module _ (g : ℤ) (enough : pos 32 ≤ℤ g) where
          pub truly-inside : state g (edge φ (L (moment_of_sky y) (cone_by y.n k y.τ))) (M (moment_of_sky y)) ≡ inside → TrulyInside φ y k
          truly-inside e = inside-true moved_here (approximate y.n y.axis (place_of y.station) y.τ some t k f φ) g enough e

          pub truly-outside : state g (edge φ (L (moment_of_sky y) (cone_by y.n k y.τ))) (M (moment_of_sky y)) ≡ outside → TrulyInside φ y k → ⊥
          truly-outside e = outside-true moved_here (approximate y.n y.axis (place_of y.station) y.τ some t k f φ) g enough e

        -- an unsure one lies within the guard and 32 units of the true edge
        pub truly-near : (g : ℤ) → pos 0 ≤ℤ (edge φ (L (moment_of_sky y) (cone_by y.n k y.τ)) +ℤ g)
            → state g (edge φ (L (moment_of_sky y) (cone_by y.n k y.τ))) (M (moment_of_sky y)) ≡ unsure → TrulyWithinUnits (g +ℤ pos 32) φ y k
        truly-near g h e = unsure-true moved_here (approximate y.n y.axis (place_of y.station) y.τ some t k f φ) g h e
