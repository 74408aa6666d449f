-- The true shadow does not depend on how finely the hour is cut: at c·τ of c·n parts it is that at τ of n parts. u, v
-- and L are the same fractions, numerators and T both c^15 times as large (`u_same`, `v-same`, `L-same`), so it is
-- truly inside at the one just where it is at the other (`inside-same`, `inside-also`): at 100·τ hundredths as at
-- second τ.
use Rattle.std.specs.Prelude.{◌≡◌, [], ◌∷◌, ℕ, ◌*◌, ◌≤◌, ℤ, nat_abs, ◌-ℤ◌, ◌*ℤ◌, ◌≤ℤ◌}
use Rattle.std.proofs.Common.{sym, ◌∙◌, ap, ap₂, subst₂, mul-pos, mul_assoc}
use Rattle.std.proofs.Math.IntN.{pos}
use Rattle.sheet_types.specs.declared.phases.Phase.{Phase}
use Rattle.rounding.specs.laws.Ring.{num, ◌⊕◌, ◌⊖◌, ◌⊗◌, ring, v0, v1, v2, v3, v4, v5, v6}
use Rattle.rounding.specs.laws.Cert.{leq, less, lit, sq, ◌⊞◌, ◌⊠◌, certify, certify-<}
use Rattle.elements.specs.declared.Cubic.{Cubic}
use Rattle.elements.specs.declared.Quadratic.{Quadratic}
use Rattle.elements.specs.declared.Cone.{Cone}
use Rattle.station.specs.Place.{place_of}
use Rattle.shadow_geometry.specs.Shadow.{Moment, H, d, edge}
use Rattle.shadow_geometry.specs.Exact.{Less}
use Rattle.sine_accuracy.specs.Series.{denominator, common}
use Rattle.sine_accuracy.specs.TrueSine.{true_sine, true_cosine}
use Rattle.sine_accuracy.specs.Angles.{arc_of, rest_common, sine_rest, cosine_rest, angle_common, sine_at, cosine_at}
use Rattle.contact_times.specs.Parts.{cube, exactQuadratic, exactCubic}
use Rattle.contact_times.specs.laws.WholeSeconds.{moment-same}
use Rattle.sky_accuracy.specs.TrueShadow.{Sky, moment_of_sky, fine, d_rest, H_rest, K, sin_H, cos_H, sin_d, cos_d, Q, R, P, true_ξ, true_η, true_ζ, T, true_u, true_v, true_L, true_M, true_edge, TrulyInside}
use Rattle.sky_accuracy.specs.laws.Latitude.{up}
use Rattle.sky_accuracy.specs.laws.Scaled.{unscaled-less}
use Rattle.sky_accuracy.proofs.laws.TrueStates.{edge-times}

-- the same time, the hour cut c times as finely
abbrev pub finer : ℕ → Sky → Sky
finer c y = record { axis = y.axis; station = y.station; C = y.C; n = c * y.n; τ = y.τ *ℤ pos c }

-- ---- angles, over a fraction f that is s times as fine
module _ (s f : ℕ) where
  angle-same : pos (angle_common (s * f)) ≡ pos s *ℤ pos s *ℤ pos (angle_common f)
  unfolding angle_common rest_common
  angle-same =
      ring (pos common ∷ pos denominator ∷ pos s ∷ pos f ∷ [])
      (v0 ⊗ (num 2 ⊗ (v1 ⊗ (v2 ⊗ v3)) ⊗ (v1 ⊗ (v2 ⊗ v3)))) (v2 ⊗ v2 ⊗ (v0 ⊗ (num 2 ⊗ (v1 ⊗ v3) ⊗ (v1 ⊗ v3)))) tt

  module _ (z w : ℤ) where
    sine-same : sine_at (s * f) z (pos s *ℤ w) ≡ pos s *ℤ pos s *ℤ sine_at f z w
    unfolding sine_at sine_rest cosine_rest rest_common arc_of
    sine-same =
        let a = v3 ⊗ (v4 ⊗ v5) in
        let b = v3 ⊗ v5 in
        let p = v4 ⊗ v2 ⊗ num 314_159_265_358_979_323_846 in
        let q = v2 ⊗ num 314_159_265_358_979_323_846 in
        ring (true_sine z ∷ true_cosine z ∷ w ∷ pos denominator ∷ pos s ∷ pos f ∷ [])
        (v0 ⊗ (num 2 ⊗ a ⊗ a ⊖ p ⊗ p) ⊕ v1 ⊗ (num 2 ⊗ a ⊗ p)) (v4 ⊗ v4 ⊗ (v0 ⊗ (num 2 ⊗ b ⊗ b ⊖ q ⊗ q) ⊕ v1 ⊗ (num 2 ⊗ b ⊗ q))) tt

    cosine-same : cosine_at (s * f) z (pos s *ℤ w) ≡ pos s *ℤ pos s *ℤ cosine_at f z w
    unfolding cosine_at sine_rest cosine_rest rest_common arc_of
    cosine-same =
        let a = v3 ⊗ (v4 ⊗ v5) in
        let b = v3 ⊗ v5 in
        let p = v4 ⊗ v2 ⊗ num 314_159_265_358_979_323_846 in
        let q = v2 ⊗ num 314_159_265_358_979_323_846 in
        ring (true_sine z ∷ true_cosine z ∷ w ∷ pos denominator ∷ pos s ∷ pos f ∷ [])
        (v1 ⊗ (num 2 ⊗ a ⊗ a ⊖ p ⊗ p) ⊖ v0 ⊗ (num 2 ⊗ a ⊗ p)) (v4 ⊗ v4 ⊗ (v1 ⊗ (num 2 ⊗ b ⊗ b ⊖ q ⊗ q) ⊖ v0 ⊗ (num 2 ⊗ b ⊗ q))) tt

module _ (c : ℕ) (some : 1 ≤ c) (y : Sky) (parts : 1 ≤ y.n) where
  abbrev x : Sky
  x = finer c y

  -- c³
  abbrev s : ℤ
  s = pos (cube c)

  -- ---- values, over (c·n)³ and over n³
  quadratic-same : (q : Quadratic) → exactQuadratic (c * y.n) q (y.τ *ℤ pos c) ≡ s *ℤ exactQuadratic y.n q y.τ
  unfolding exactQuadratic
  quadratic-same q =
      let m = v4 ⊗ v5 in
      let t = v3 ⊗ v4 in
      ring (q.c0 ∷ q.c1 ∷ q.c2 ∷ y.τ ∷ pos c ∷ pos y.n ∷ [])
      (v0 ⊗ (m ⊗ m ⊗ m) ⊕ v1 ⊗ t ⊗ (m ⊗ m) ⊕ v2 ⊗ (t ⊗ t) ⊗ m)
      (v4 ⊗ v4 ⊗ v4 ⊗ (v0 ⊗ (v5 ⊗ v5 ⊗ v5) ⊕ v1 ⊗ v3 ⊗ (v5 ⊗ v5) ⊕ v2 ⊗ (v3 ⊗ v3) ⊗ v5)) tt

  cubic-same : (g : Cubic) → exactCubic (c * y.n) g (y.τ *ℤ pos c) ≡ s *ℤ exactCubic y.n g y.τ
  unfolding exactCubic
  cubic-same g =
      let m = v5 ⊗ v6 in
      let t = v4 ⊗ v5 in
      ring (g.c0 ∷ g.c1 ∷ g.c2 ∷ g.c3 ∷ y.τ ∷ pos c ∷ pos y.n ∷ [])
      (v0 ⊗ (m ⊗ m ⊗ m) ⊕ v1 ⊗ t ⊗ (m ⊗ m) ⊕ v2 ⊗ (t ⊗ t) ⊗ m ⊕ v3 ⊗ (t ⊗ t ⊗ t))
      (v5 ⊗ v5 ⊗ v5 ⊗ (v0 ⊗ (v6 ⊗ v6 ⊗ v6) ⊕ v1 ⊗ v4 ⊗ (v6 ⊗ v6) ⊕ v2 ⊗ (v4 ⊗ v4) ⊗ v6 ⊕ v3 ⊗ (v4 ⊗ v4 ⊗ v4))) tt

  cube-same : cube (c * y.n) ≡ cube c * cube y.n
  cube-same = pos-one (ring (pos c ∷ pos y.n ∷ []) (v0 ⊗ v1 ⊗ (v0 ⊗ v1) ⊗ (v0 ⊗ v1)) (v0 ⊗ v0 ⊗ v0 ⊗ (v1 ⊗ v1 ⊗ v1)) tt)
    where
      pos-one : {a b : ℕ} → pos a ≡ pos b → a ≡ b
      pos-one e = ap nat_abs e

  fine-same : fine x ≡ cube c * fine y
  fine-same = ap (λ (k : ℕ). k * 10_000) cube-same ∙ mul_assoc (cube c) (cube y.n) 10_000

  -- ---- angles
  moment-is : moment_of_sky x ≡ moment_of_sky y
  moment-is = moment-same c some y.n parts y.τ y.axis (place_of y.station)

  K-same : pos (K x) ≡ s *ℤ s *ℤ pos (K y)
  K-same = ap (λ (k : ℕ). pos (angle_common k)) fine-same ∙ angle-same (cube c) (fine y)

  H-rest-same : H_rest x ≡ s *ℤ H_rest y
  unfolding H_rest
  H-rest-same =
      rw (ap H moment-is, quadratic-same y.axis.mu, cube-same)
      (ring (exactQuadratic y.n y.axis.mu y.τ ∷ y.station.longitude ∷ y.station.deltat ∷ H (moment_of_sky y) ∷ s ∷ pos (cube y.n) ∷ [])
      (v4 ⊗ v0 ⊗ num 10_000 ⊕ v1 ⊗ (v4 ⊗ v5 ⊗ num 10_000) ⊖ v2 ⊗ num 417_807 ⊗ (v4 ⊗ v5) ⊖ v4 ⊗ v5 ⊗ num 10_000 ⊗ v3)
      (v4 ⊗ (v0 ⊗ num 10_000 ⊕ v1 ⊗ (v5 ⊗ num 10_000) ⊖ v2 ⊗ num 417_807 ⊗ v5 ⊖ v5 ⊗ num 10_000 ⊗ v3)) tt)

  d-rest-same : d_rest x ≡ s *ℤ d_rest y
  unfolding d_rest
  d-rest-same =
      rw (ap (λ (m : Moment). d m) moment-is, quadratic-same y.axis.d, cube-same)
      (ring (exactQuadratic y.n y.axis.d y.τ ∷ d (moment_of_sky y) ∷ s ∷ pos (cube y.n) ∷ [])
      (v2 ⊗ v0 ⊗ num 10_000 ⊖ v2 ⊗ v3 ⊗ num 10_000 ⊗ v1) (v2 ⊗ (v0 ⊗ num 10_000 ⊖ v3 ⊗ num 10_000 ⊗ v1)) tt)

  -- any of the four, from its angle and its rest
  of-angle : (f : ℕ → ℤ → ℤ → ℤ) → ((z w : ℤ) → f (cube c * fine y) z (s *ℤ w) ≡ s *ℤ s *ℤ f (fine y) z w)
      → (z e w r : ℤ) → z ≡ e → w ≡ s *ℤ r → f (fine x) z w ≡ s *ℤ s *ℤ f (fine y) e r
  of-angle f h z e w r i j = rw (i, j, fine-same) (h e r)

  sin-H-same : sin_H x ≡ s *ℤ s *ℤ sin_H y
  sin-H-same =
      of-angle sine_at (λ z w. sine-same (cube c) (fine y) z w) (H (moment_of_sky x)) (H (moment_of_sky y)) (H_rest x) (H_rest y) (ap H moment-is) H-rest-same

  cos-H-same : cos_H x ≡ s *ℤ s *ℤ cos_H y
  cos-H-same =
      of-angle cosine_at (λ z w. cosine-same (cube c) (fine y) z w) (H (moment_of_sky x)) (H (moment_of_sky y)) (H_rest x) (H_rest y) (ap H moment-is) H-rest-same

  sin-d-same : sin_d x ≡ s *ℤ s *ℤ sin_d y
  sin-d-same =
      of-angle sine_at (λ z w. sine-same (cube c) (fine y) z w) (d (moment_of_sky x)) (d (moment_of_sky y)) (d_rest x) (d_rest y) (ap (λ (m : Moment). d m) moment-is) d-rest-same

  cos-d-same : cos_d x ≡ s *ℤ s *ℤ cos_d y
  cos-d-same =
      of-angle cosine_at (λ z w. cosine-same (cube c) (fine y) z w) (d (moment_of_sky x)) (d (moment_of_sky y)) (d_rest x) (d_rest y) (ap (λ (m : Moment). d m) moment-is) d-rest-same

  -- c^12 times
  abbrev s4 : ℤ
  s4 = s *ℤ s *ℤ (s *ℤ s)

  ξ-same : true_ξ x ≡ s4 *ℤ true_ξ y
  unfolding true_ξ
  ξ-same =
      rw (sin-H-same, K-same)
      (ring (R y ∷ sin_H y ∷ pos (K y) ∷ s ∷ []) (v0 ⊗ (v3 ⊗ v3 ⊗ v1) ⊗ (v3 ⊗ v3 ⊗ v2)) (v3 ⊗ v3 ⊗ (v3 ⊗ v3) ⊗ (v0 ⊗ v1 ⊗ v2)) tt)

  η-same : true_η x ≡ s4 *ℤ true_η y
  unfolding true_η
  η-same =
      let k = v6 ⊗ v6 in
      rw (cos-H-same, sin-d-same, cos-d-same, K-same)
      (ring (R y ∷ P y ∷ cos_H y ∷ sin_d y ∷ cos_d y ∷ pos (K y) ∷ s ∷ [])
      (v1 ⊗ (k ⊗ v4) ⊗ (k ⊗ v5) ⊖ v0 ⊗ (k ⊗ v2) ⊗ (k ⊗ v3)) (k ⊗ k ⊗ (v1 ⊗ v4 ⊗ v5 ⊖ v0 ⊗ v2 ⊗ v3)) tt)

  ζ-same : true_ζ x ≡ s4 *ℤ true_ζ y
  unfolding true_ζ
  ζ-same =
      let k = v6 ⊗ v6 in
      rw (cos-H-same, sin-d-same, cos-d-same, K-same)
      (ring (R y ∷ P y ∷ cos_H y ∷ sin_d y ∷ cos_d y ∷ pos (K y) ∷ s ∷ [])
      (v1 ⊗ (k ⊗ v3) ⊗ (k ⊗ v5) ⊕ v0 ⊗ (k ⊗ v2) ⊗ (k ⊗ v4)) (k ⊗ k ⊗ (v1 ⊗ v3 ⊗ v5 ⊕ v0 ⊗ v2 ⊗ v4)) tt)

  QKK-same : pos (Q x * K x * K x) ≡ s4 *ℤ pos (Q y * K y * K y)
  QKK-same =
      ap (λ (z : ℤ). pos (Q y) *ℤ z *ℤ z) K-same
      ∙ ring (pos (Q y) ∷ pos (K y) ∷ s ∷ []) (v0 ⊗ (v2 ⊗ v2 ⊗ v1) ⊗ (v2 ⊗ v2 ⊗ v1)) (v2 ⊗ v2 ⊗ (v2 ⊗ v2) ⊗ (v0 ⊗ v1 ⊗ v1)) tt

  -- ---- c^15 times
  abbrev F : ℤ
  F = s *ℤ s4

  pub T-same : pos (T x) ≡ F *ℤ pos (T y)
  T-same =
      ap₂ (λ (a b : ℤ). a *ℤ pos 100_000_000 *ℤ b) (ap pos cube-same) QKK-same
      ∙ ring (s ∷ pos (cube y.n) ∷ pos (Q y * K y * K y) ∷ [])
      (v0 ⊗ v1 ⊗ num 100_000_000 ⊗ (v0 ⊗ v0 ⊗ (v0 ⊗ v0) ⊗ v2)) (v0 ⊗ (v0 ⊗ v0 ⊗ (v0 ⊗ v0)) ⊗ (v1 ⊗ num 100_000_000 ⊗ v2)) tt

  across : (e r : ℤ) → (s *ℤ e *ℤ (s4 *ℤ pos (Q y * K y * K y)) -ℤ s4 *ℤ r *ℤ pos (cube c * cube y.n)) *ℤ pos 100_000_000
      ≡ F *ℤ ((e *ℤ pos (Q y * K y * K y) -ℤ r *ℤ pos (cube y.n)) *ℤ pos 100_000_000)
  across e r =
      let k = v3 ⊗ v3 ⊗ (v3 ⊗ v3) in
      ring (e ∷ r ∷ pos (Q y * K y * K y) ∷ s ∷ pos (cube y.n) ∷ [])
      ((v3 ⊗ v0 ⊗ (k ⊗ v2) ⊖ k ⊗ v1 ⊗ (v3 ⊗ v4)) ⊗ num 100_000_000) (v3 ⊗ k ⊗ ((v0 ⊗ v2 ⊖ v1 ⊗ v4) ⊗ num 100_000_000)) tt

  pub u_same : true_u x ≡ F *ℤ true_u y
  unfolding true_u
  u_same = rw (cubic-same y.axis.x, QKK-same, ξ-same, cube-same) (across (exactCubic y.n y.axis.x y.τ) (true_ξ y))

  pub v-same : true_v x ≡ F *ℤ true_v y
  unfolding true_v
  v-same = rw (cubic-same y.axis.y, QKK-same, η-same, cube-same) (across (exactCubic y.n y.axis.y y.τ) (true_η y))

  pub L-same : (k : Cone) → true_L x k ≡ F *ℤ true_L y k
  unfolding true_L
  L-same k =
      let q = v4 ⊗ v4 ⊗ (v4 ⊗ v4) in
      rw (quadratic-same k.l, QKK-same, ζ-same, cube-same)
      (ring (exactQuadratic y.n k.l y.τ ∷ true_ζ y ∷ pos (Q y * K y * K y) ∷ k.tanf ∷ s ∷ pos (cube y.n) ∷ [])
      (v4 ⊗ v0 ⊗ (q ⊗ v2) ⊗ num 100_000_000 ⊖ q ⊗ v1 ⊗ v3 ⊗ (v4 ⊗ v5)) (v4 ⊗ q ⊗ (v0 ⊗ v2 ⊗ num 100_000_000 ⊖ v1 ⊗ v3 ⊗ v5)) tt)

  -- ---- so the answers are the same
  some-F : pos 1 ≤ℤ F
  some-F = let h = mul-pos (mul-pos some some) some in up (mul-pos h (mul-pos (mul-pos h h) (mul-pos h h)))

  module _ (φ : Phase) (k : Cone) where
    M-same : true_M x ≡ true_M y *ℤ (F *ℤ F)
    M-same =
        rw (u_same, v-same)
        (ring (true_u y ∷ true_v y ∷ F ∷ []) (v2 ⊗ v0 ⊗ (v2 ⊗ v0) ⊕ v2 ⊗ v1 ⊗ (v2 ⊗ v1)) ((v0 ⊗ v0 ⊕ v1 ⊗ v1) ⊗ (v2 ⊗ v2)) tt)

    edge_same : true_edge φ x k ≡ true_edge φ y k *ℤ F
    edge_same =
        ap (λ (z : ℤ). edge φ z) (L-same k) ∙ edge-times φ (cube c * (cube c * cube c * (cube c * cube c))) (true_L y k)
        ∙ ring (true_edge φ y k ∷ F ∷ []) (v1 ⊗ v0) (v0 ⊗ v1) tt

    pub inside-same : TrulyInside φ x k → TrulyInside φ y k
    inside-same h = unscaled-less F (true_M y) (true_edge φ y k) some-F (subst₂ Less M-same edge_same h)

    pub inside-also : TrulyInside φ y k → TrulyInside φ x k
    inside-also h =
        let e = true_M y ∷ true_edge φ y k ∷ F ∷ [] in
        subst₂ Less (sym M-same) (sym edge_same)
        (record {
          sign = certify 0 e (num 0) (v1 ⊗ v2) (leq (num 0) v1 h.sign ⊠ (leq (num 1) v2 some-F ⊞ lit 1)) tt;
          square = certify-< 0 e (v0 ⊗ (v2 ⊗ v2)) (v1 ⊗ v2 ⊗ (v1 ⊗ v2)) (sq v2 ⊠ less v0 (v1 ⊗ v1) h.square ⊞ leq (num 1) v2 some-F ⊠ (leq (num 1) v2 some-F ⊞ lit 2)) tt;
        })
