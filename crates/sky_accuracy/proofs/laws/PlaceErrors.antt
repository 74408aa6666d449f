-- The rule's R is within 5 units of the true one, and P within 5½ (`place-close`), at every latitude and height of a
-- station; and the true place is at most 1.00492 from the Earth's centre (`place_size`). Why: C times the cosine or
-- the sine is 3.994 off (Meridian); R and P, h, and Z for P, are rounded, ½ each.
use Rattle.std.specs.Prelude.{◌≡◌, [], ◌∷◌, ℕ, ◌+◌, ◌*◌, ◌≤◌, ℤ, ◌+ℤ◌, ◌-ℤ◌, ◌*ℤ◌, ◌≤ℤ◌}
use Rattle.std.proofs.Math.Path.{ap}
use Rattle.std.proofs.Common.{subst}
use native.Mathlib.Omega.{arith}
use Rattle.std.proofs.Math.Nat.{mul-le-mul, mul-le-mul_left}
use Rattle.std.proofs.Math.Dec.{leb→le}
use Rattle.std.proofs.Math.IntN.{pos, nat_abs}
use Rattle.std.specs.Int.Signed.{le_z_yes}
use Rattle.rounding.specs.laws.Order.{≤-parts, le_nat_abs, nat_abs_sum, nat_abs_product, square_nat_abs}
use Rattle.rounding.specs.laws.Ring.{num, ◌⊕◌, ◌⊖◌, ◌⊗◌, ring, v0, v1, v2, v3, v4, v5, v6, v7, v8, v9}
use Rattle.rounding.specs.laws.Cert.{fact, leq, lit, sq, ◌⊞◌, ◌⊠◌, certify}
use Rattle.rounding.specs.Units.{one}
use Rattle.rounding.proofs.laws.NearLaws.{near-error}
use Rattle.sine.specs.Sine.{sine, cosine}
use Rattle.sine.specs.laws.SineLaws.{sine-size, cosine-size}
use Rattle.sine.specs.laws.SizeLaws.{square-sum}
use Rattle.station.specs.Place.{equatorial_radius, E, C, Z, h, R, P}
use Rattle.sine_accuracy.specs.Series.{common}
use Rattle.sine_accuracy.specs.TrueSine.{true_sine, true_cosine}
use Rattle.sine_accuracy.proofs.laws.EveryAngle.{sine-everywhere, cosine-everywhere}
use Rattle.sine_accuracy.proofs.laws.Circle as True
use Rattle.sky_accuracy.specs.TruePlace.{under_true, TrueC, place_common, true_r, true_p, PlaceClose}
use Rattle.sky_accuracy.specs.laws.Sizes.{Known, OnCircle, by, plus, times, self}
use Rattle.sky_accuracy.specs.laws.Circle.{squares}
use Rattle.sky_accuracy.specs.laws.Curvature.{curvature, C_positive, C_most}
use Rattle.sky_accuracy.specs.laws.Latitude.{weighted, Latitude, up, natural}
use Rattle.sky_accuracy.specs.laws.Signs.{off, either, n-limit, P_sum}

-- ---- the station

module _ (latitude height : ℤ) (hl : nat_abs latitude ≤ 90000000) (hh : nat_abs height ≤ 9000) (t : TrueC latitude) where
  abbrev s : ℤ
  s = sine latitude

  abbrev c : ℤ
  c = cosine latitude

  abbrev σ : ℤ
  σ = true_sine latitude

  abbrev κ : ℤ
  κ = true_cosine latitude

  abbrev K : ℕ
  K = common

  abbrev m : ℕ
  m = t.m

  abbrev n : ℕ
  n = t.n

  some_K : 1 ≤ K
  unfolding common
  some_K = leb→le 1 common tt

  known-s : Known K s σ
  known-s = record { small = sine-size latitude; close = (sine-everywhere latitude).within }

  known-c : Known K c κ
  known-c = record { small = cosine-size latitude; close = (cosine-everywhere latitude).within }

  on_circle : OnCircle K σ κ
  on_circle = record { on = True.circle latitude }

  on-circle-turned : OnCircle K κ σ
  on-circle-turned =
      record {
        on = subst (λ (y : ℤ). 10_000_000_000_000_000 * nat_abs (y -ℤ pos (K * K)) ≤ K * K) (ring (σ ∷ κ ∷ []) (v0 ⊗ v0 ⊕ v1 ⊗ v1) (v1 ⊗ v1 ⊕ v0 ⊗ v0) tt) on_circle.on;
      }

  circle-of : 9960000000000000 ≤ nat_abs s * nat_abs s + nat_abs c * nat_abs c
  circle-of = omega (arith, square-sum latitude hl)

  squares-of : nat_abs (c *ℤ c +ℤ s *ℤ s -ℤ pos 10_000_000_000_000_000) ≤ 800_000_000
  squares-of = squares K some_K c s κ σ known-c known-s on-circle-turned

  curved : nat_abs (C s c *ℤ C s c *ℤ weighted 100_000_000 99_330_658 c s -ℤ pos 10_000_000_000_000_000_000_000_000_000_000_000_000_000) ≤ 352_000_000_000_000_000_000_000_000_000_000
  unfolding weighted
  curved = curvature s c (sine-size latitude) (cosine-size latitude) circle-of squares-of

  exact-of : 10_000_000_000_000_000 * nat_abs (pos (n * n) *ℤ weighted 100_000_000 99_330_658 κ σ -ℤ pos (100_000_000 * (m * m) * (K * K))) ≤ 100_000_000 * (m * m) * (K * K)
  unfolding weighted under_true
  exact-of = t.one

  turn-weights : (a b : ℕ) (x y : ℤ) → weighted a b x y ≡ weighted b a y x
  unfolding weighted
  turn-weights a b x y = ring (pos a ∷ pos b ∷ x ∷ y ∷ []) (v0 ⊗ (v2 ⊗ v2) ⊕ v1 ⊗ (v3 ⊗ v3)) (v1 ⊗ (v3 ⊗ v3) ⊕ v0 ⊗ (v2 ⊗ v2)) tt

  for-cosine : Latitude K m n 100_000_000 99_330_658 (C s c) c s κ σ
  for-cosine =
      record {
        some_K = some_K;
        some = t.some;
        weight_a = record { low = omega arith; high = omega arith };
        weight_b = record { low = omega arith; high = omega arith };
        known_p = known-c;
        known_q = known-s;
        circle = on-circle-turned;
        C_positive = C_positive s c (sine-size latitude) (cosine-size latitude) circle-of squares-of;
        C_most = C_most s c (sine-size latitude) (cosine-size latitude) circle-of squares-of;
        rule = curved;
        exact = exact-of;
      }

  for-sine : Latitude K m n 99_330_658 100_000_000 (C s c) s c σ κ
  for-sine =
      record {
        some_K = some_K;
        some = t.some;
        weight_a = record { low = omega arith; high = omega arith };
        weight_b = record { low = omega arith; high = omega arith };
        known_p = known-s;
        known_q = known-c;
        circle = on_circle;
        C_positive = for-cosine.C_positive;
        C_most = for-cosine.C_most;
        rule = rw (turn-weights 99_330_658 100_000_000 s c) curved;
        exact = rw (turn-weights 99_330_658 100_000_000 σ κ) exact-of;
      }

  -- the rounding of h, and the rule's sine or cosine times it
  height-off : ℤ
  height-off = pos 6_378_245 *ℤ h height -ℤ height *ℤ pos 100_000_000

  height-size : 2 * nat_abs height-off ≤ 6_378_245
  unfolding height-off h
  height-size = near-error (height *ℤ one) equatorial_radius (le_z_yes tt)

  -- (A·h)·x·K against 10^16·height·X, m times
  raised : ℤ → ℤ → ℤ
  raised x X = pos m *ℤ (pos K *ℤ x *ℤ height-off +ℤ height *ℤ (pos 100_000_000 *ℤ (pos K *ℤ x -ℤ pos 100_000_000 *ℤ X)))

  raised-size : (x X : ℤ) → Known K x X → nat_abs (raised x X) ≤ m * (K * 320_523_250_000_000)
  unfolding raised
  raised-size x X k =
      let a = pos K *ℤ x *ℤ height-off in
      let y = pos 100_000_000 *ℤ (pos K *ℤ x -ℤ pos 100_000_000 *ℤ X) in
      let b = height *ℤ y in
      let ha : 2 * nat_abs a ≤ K * (100_000_000 * 6_378_245) =
      omega (arith, nat_abs_product (pos K *ℤ x) height-off, mul-le-mul (by (pos K) x (self (pos K)) k.small) height-size) in
      let hb : 100 * nat_abs b ≤ 9000 * (100_000_000 * (179 * K)) =
      omega (
        arith,
        by height y hh (self y),
        nat_abs_product (pos 100_000_000) (pos K *ℤ x -ℤ pos 100_000_000 *ℤ X),
        k.close,
      ) in
      by (pos m) (a +ℤ b) (self (pos m)) (omega (arith, nat_abs_sum a b, ha, hb))

  -- within 5
  R_close : nat_abs (pos (place_common t) *ℤ R latitude height -ℤ true_r t height) ≤ 5 * place_common t
  unfolding place_common true_r R off raised height-off
  R_close =
      let r = R latitude height in
      let x = pos (6_378_245 * m * K) *ℤ r -ℤ true_r t height in
      let a = pos 100_000_000 *ℤ r -ℤ (C s c +ℤ h height) *ℤ c in
      let e : pos 100_000_000 *ℤ x ≡ pos (6_378_245 * m * K) *ℤ a +ℤ pos 6_378_245 *ℤ off K m n (C s c) c κ +ℤ raised c κ
      = ring (pos m ∷ pos K ∷ r ∷ C s c ∷ h height ∷ c ∷ pos n ∷ κ ∷ height ∷ [])
      (num 100_000_000 ⊗ (num 6_378_245 ⊗ v0 ⊗ v1 ⊗ v2 ⊖ num 100_000_000 ⊗ (v6 ⊗ num 6_378_245 ⊕ v8 ⊗ v0) ⊗ v7))
      (num 6_378_245 ⊗ v0 ⊗ v1 ⊗ (num 100_000_000 ⊗ v2 ⊖ (v3 ⊕ v4) ⊗ v5)
      ⊕ num 6_378_245 ⊗ (v3 ⊗ (v5 ⊗ (v0 ⊗ v1)) ⊖ num 10_000_000_000_000_000 ⊗ (v6 ⊗ v7))
      ⊕ v0 ⊗ (v1 ⊗ v5 ⊗ (num 6_378_245 ⊗ v4 ⊖ v8 ⊗ num 100_000_000) ⊕ v8 ⊗ (num 100_000_000 ⊗ (v1 ⊗ v5 ⊖ num 100_000_000 ⊗ v7)))) tt in
      let ha : 2 * nat_abs (pos (6_378_245 * m * K) *ℤ a) ≤ 6_378_245 * (m * K) * 100_000_000 =
      omega (arith, nat_abs_product (pos (6_378_245 * m * K)) a, mul-le-mul_left (6_378_245 * (m * K)) (near-error ((C s c +ℤ h height) *ℤ c) one (le_z_yes tt))) in
      omega (
        arith,
        ap nat_abs e,
        nat_abs_product (pos 100_000_000) x,
        nat_abs_sum (pos (6_378_245 * m * K) *ℤ a +ℤ pos 6_378_245 *ℤ off K m n (C s c) c κ) (raised c κ),
        nat_abs_sum (pos (6_378_245 * m * K) *ℤ a) (pos 6_378_245 *ℤ off K m n (C s c) c κ),
        nat_abs_product (pos 6_378_245) (off K m n (C s c) c κ),
        either c κ for-cosine,
        raised-size c κ known-c,
        ha,
      )

  -- within 5½
  P_close : 2 * nat_abs (pos (place_common t) *ℤ P latitude height -ℤ true_p t height) ≤ 11 * place_common t
  unfolding place_common true_p P Z off raised height-off
  P_close =
      let r = P latitude height in
      let z = Z s c in
      let x = pos (6_378_245 * m * K) *ℤ r -ℤ true_p t height in
      let a = pos 100_000_000 *ℤ r -ℤ (z +ℤ h height) *ℤ s in
      let b = pos 100_000_000 *ℤ z -ℤ C s c *ℤ pos 99_330_658 in
      let f = pos (6_378_245 * m * K) *ℤ s *ℤ b in
      let g = pos (100_000_000 * (6_378_245 * m * K)) *ℤ a in
      let o = off K m n (C s c) s σ in
      let e : pos 10_000_000_000_000_000 *ℤ x ≡ g +ℤ f +ℤ pos (6_378_245 * 99_330_658) *ℤ o +ℤ pos 100_000_000 *ℤ raised s σ
      = ring (pos m ∷ pos K ∷ r ∷ C s c ∷ h height ∷ s ∷ pos n ∷ σ ∷ height ∷ z ∷ [])
      (num 10_000_000_000_000_000 ⊗ (num 6_378_245 ⊗ v0 ⊗ v1 ⊗ v2 ⊖ (num 99_330_658 ⊗ (v6 ⊗ num 6_378_245) ⊕ num 100_000_000 ⊗ (v8 ⊗ v0)) ⊗ v7))
      (num 100_000_000 ⊗ (num 6_378_245 ⊗ v0 ⊗ v1) ⊗ (num 100_000_000 ⊗ v2 ⊖ (v9 ⊕ v4) ⊗ v5)
      ⊕ num 6_378_245 ⊗ v0 ⊗ v1 ⊗ v5 ⊗ (num 100_000_000 ⊗ v9 ⊖ v3 ⊗ num 99_330_658)
      ⊕ num 6_378_245 ⊗ num 99_330_658 ⊗ (v3 ⊗ (v5 ⊗ (v0 ⊗ v1)) ⊖ num 10_000_000_000_000_000 ⊗ (v6 ⊗ v7))
      ⊕ num 100_000_000 ⊗ (v0 ⊗ (v1 ⊗ v5 ⊗ (num 6_378_245 ⊗ v4 ⊖ v8 ⊗ num 100_000_000) ⊕ v8 ⊗ (num 100_000_000 ⊗ (v1 ⊗ v5 ⊖ num 100_000_000 ⊗ v7))))) tt in
      let hg : 2 * nat_abs g ≤ 100_000_000 * (6_378_245 * (m * K)) * 100_000_000 =
      omega (
        arith,
        nat_abs_product (pos (100_000_000 * (6_378_245 * m * K))) a,
        mul-le-mul_left (100_000_000 * (6_378_245 * (m * K))) (near-error ((z +ℤ h height) *ℤ s) one (le_z_yes tt)),
      ) in
      let hf : 2 * nat_abs f ≤ 6_378_245 * (m * K) * 100_000_000 * 100_000_000 =
      omega (
        arith,
        nat_abs_product (pos (6_378_245 * m * K) *ℤ s) b,
        mul-le-mul (by (pos (6_378_245 * m * K)) s {m = 6_378_245 * (m * K)} (omega arith) (sine-size latitude)) (near-error (C s c *ℤ E) one (le_z_yes tt)),
      ) in
      let ho : nat_abs (pos (6_378_245 * 99_330_658) *ℤ o) ≤ 253_041_975_930_442_874_000_000 * (m * K) = omega (arith, nat_abs_product (pos (6_378_245 * 99_330_658)) o, either s σ for-sine) in
      let hr : nat_abs (pos 100_000_000 *ℤ raised s σ) ≤ 32_052_325_000_000_000_000_000 * (m * K) = omega (
        arith,
        nat_abs_product (pos 100_000_000)
            (raised s σ),
        raised-size s σ known-s,
      ) in
      let all : nat_abs (pos 10_000_000_000_000_000 *ℤ x) ≤ nat_abs g + nat_abs f + nat_abs (pos (6_378_245 * 99_330_658) *ℤ o) + nat_abs (pos 100_000_000 *ℤ raised s σ) =
      omega (
        arith,
        ap nat_abs e,
        nat_abs_sum (g +ℤ f +ℤ pos (6_378_245 * 99_330_658) *ℤ o) (pos 100_000_000 *ℤ raised s σ),
        nat_abs_sum (g +ℤ f) (pos (6_378_245 * 99_330_658) *ℤ o),
        nat_abs_sum g f,
      ) in
      P_sum (nat_abs x) m K (nat_abs (pos 10_000_000_000_000_000 *ℤ x)) (nat_abs g) (nat_abs f) (nat_abs (pos (6_378_245 * 99_330_658) *ℤ o)) (nat_abs (pos 100_000_000 *ℤ raised s σ))
      (nat_abs_product (pos 10_000_000_000_000_000) x) all hg hf ho hr

  pub place-close : PlaceClose t height
  place-close = record { R = R_close; P = P_close }

  -- ---- the true place is at most 1.00492 from the Earth's centre
  from-centre : ℕ
  from-centre = n * 6_378_245 + nat_abs height * m

  centre-most : 100_000 * from-centre ≤ 100_492 * (6_378_245 * m)
  unfolding from-centre
  centre-most = omega (arith, ≤-parts (n-limit c κ for-cosine), mul-le-mul_left m hh)

  R-size : nat_abs (true_r t height) ≤ 100_000_000 * from-centre * nat_abs κ
  unfolding true_r from-centre
  R-size =
      by (pos 100_000_000 *ℤ (pos n *ℤ pos 6_378_245 +ℤ height *ℤ pos m)) κ
      (by (pos 100_000_000) (pos n *ℤ pos 6_378_245 +ℤ height *ℤ pos m) (self (pos 100_000_000))
      (plus (pos n *ℤ pos 6_378_245) (height *ℤ pos m) (self (pos (n * 6_378_245))) (by height (pos m) (self height) (self (pos m))))) (self κ)

  P-size : nat_abs (true_p t height) ≤ 100_000_000 * from-centre * nat_abs σ
  unfolding true_p from-centre
  P-size =
      by (pos 99_330_658 *ℤ (pos n *ℤ pos 6_378_245) +ℤ pos 100_000_000 *ℤ (height *ℤ pos m)) σ
      (omega (
        arith,
        nat_abs_sum (pos 99_330_658 *ℤ (pos n *ℤ pos 6_378_245)) (pos 100_000_000 *ℤ (height *ℤ pos m)),
        nat_abs_product (pos 100_000_000) (height *ℤ pos m),
        by height (pos m) (self height) (self (pos m)),
      )) (self σ)

  circle-sizes : (pos 10_000_000_000_000_000 *ℤ (pos (nat_abs κ) *ℤ pos (nat_abs κ) +ℤ pos (nat_abs σ) *ℤ pos (nat_abs σ) -ℤ pos K *ℤ pos K)) ≤ℤ (pos K *ℤ pos K)
  circle-sizes =
      subst (λ (y : ℤ). (pos 10_000_000_000_000_000 *ℤ (y +ℤ pos (nat_abs σ * nat_abs σ) -ℤ pos (K * K))) ≤ℤ pos (K * K)) (square_nat_abs κ)
      (subst (λ (z : ℤ). (pos 10_000_000_000_000_000 *ℤ (κ *ℤ κ +ℤ z -ℤ pos (K * K))) ≤ℤ pos (K * K)) (square_nat_abs σ)
      (le_nat_abs _ (times 10_000_000_000_000_000 (κ *ℤ κ +ℤ σ *ℤ σ -ℤ pos (K * K)) on-circle-turned.on)))

  pub place_size : (pos (nat_abs (true_r t height)) *ℤ pos (nat_abs (true_r t height)) +ℤ pos (nat_abs (true_p t height)) *ℤ pos (nat_abs (true_p t height)))
      ≤ℤ (pos 10_098_643_000_000_000 *ℤ (pos (place_common t) *ℤ pos (place_common t)))
  unfolding place_common
  place_size =
      let r = leq v0 (num 100_000_000 ⊗ v2 ⊗ v3) (up R-size) in
      let p = leq v1 (num 100_000_000 ⊗ v2 ⊗ v4) (up P-size) in
      let g = leq (num 100_000 ⊗ v2) (num 100_492 ⊗ (num 6_378_245 ⊗ v5)) (up centre-most) in
      certify 9_999_999_999 (pos (nat_abs (true_r t height)) ∷ pos (nat_abs (true_p t height)) ∷ pos from-centre ∷ pos (nat_abs κ) ∷ pos (nat_abs σ) ∷ pos m ∷ pos K ∷ [])
      (v0 ⊗ v0 ⊕ v1 ⊗ v1) (num 10_098_643_000_000_000 ⊗ (num 6_378_245 ⊗ v5 ⊗ v6 ⊗ (num 6_378_245 ⊗ v5 ⊗ v6)))
      (lit 10_000_000_000 ⊠ (r ⊠ (r ⊞ lit 2 ⊠ fact v0 (natural (nat_abs (true_r t height)))) ⊞ p ⊠ (p ⊞ lit 2 ⊠ fact v1 (natural (nat_abs (true_p t height)))))
      ⊞ lit 10_000_000_000 ⊠ sq v2 ⊠ leq (num 10_000_000_000_000_000 ⊗ (v3 ⊗ v3 ⊕ v4 ⊗ v4 ⊖ v6 ⊗ v6)) (v6 ⊗ v6) circle-sizes
      ⊞ lit 10_000_000_000_000_001 ⊠ sq v6 ⊠ g ⊠ (g ⊞ lit 200_000 ⊠ fact v2 (natural from-centre))
      ⊞ lit 380_783_606_450_200_949_836_701_180_028_400 ⊠ sq v5 ⊠ sq v6) tt
