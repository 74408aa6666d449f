-- The shadow at a station at three seconds, i and j apart: how far u, v and L at the middle one leave the chords of the others. Of any axis, an
-- eclipse's or a star's. With h = i + j and P = i j (i + j), all times i + j:
--   sin H, cos H   10.59 h + 0.2699 P       sin d, cos d   10.59 h + 0.0001 P
--   u              24.696 h + 0.2873 P      v              47.088 h + 0.2892 P      L   5.171 h + 0.0022 P
-- Of these, 14, 15 and 5.01 h are the roundings of u, v and L; of 10.59 h, 3.58 h those of a sine and 7.01 h those of its angle.
use Rattle.std.specs.Prelude.{◌≡◌, refl, [], ◌∷◌, ℕ, zero, suc, ◌+◌, ◌*◌, ◌≤◌, ℤ, negsuc, ◌+ℤ◌, ◌-ℤ◌, ◌*ℤ◌}
use Rattle.std.proofs.Common.{◌∙◌, mul-le-mul_left}
use Rattle.std.proofs.Math.Path.{ap}
use native.Mathlib.Omega.{arith}
use Rattle.std.proofs.Math.Nat.{mul-le-mul}
use Rattle.std.proofs.Math.IntN.{pos, nat_abs}
use Rattle.std.specs.Int.Signed.{le_z_yes}
use Rattle.rounding.specs.laws.Order.{nat_abs_opposite, nat_abs_product}
use Rattle.rounding.specs.laws.Ring.{num, ◌⊕◌, ◌⊖◌, ◌⊗◌, opp, ring, v0, v1, v2, v3, v4, v5}
use Rattle.rounding.specs.Units.{one}
use Rattle.rounding.specs.Near.{near}
use Rattle.rounding.proofs.laws.NearLaws.{near-error}
use Rattle.sine.specs.Sine.{sine, cosine}
use Rattle.sine.specs.laws.SineLaws.{sine-size, cosine-size}
use Rattle.elements.specs.declared.Axis.{Axis}
use Rattle.elements.specs.declared.Cone.{Cone}
use Rattle.elements.specs.declared.Cubic.{Cubic}
use Rattle.elements.specs.Elements.{x_at, y_at, d_at, μ_at, l_at}
use Rattle.elements.specs.Sizes.{CubicSizes, AxisSizes, ConeSizes}
use Rattle.elements.specs.Polynomial.{cubic_at}
use Rattle.station.specs.declared.Place.{Place}
use Rattle.station.specs.Sizes.{PlaceSizes}
use Rattle.shadow_geometry.specs.Shadow.{Moment, moment_of, H, ξ, η, ζ, u, v, L}
use Rattle.shadow_geometry.specs.Exact.{exact-cubic, exact_q, exact_ξ, exact_η, exact_ζ}
use Rattle.shadow_geometry.specs.laws.PolynomialError.{cubic-error}
use Rattle.shadow_geometry.proofs.laws.Errors.{η-error, ζ-error}
use Rattle.chord_bounds.specs.laws.SineSlope.{sine_change, cosine_change}
use Rattle.chord_bounds.specs.laws.Deviation.{deviation, deviation-sum, deviation-minus, deviation-left, deviation-right, deviation-near, deviation-product}
use Rattle.chord_bounds.specs.laws.SineChord.{sine-chord, cosine-chord}
use Rattle.chord_bounds.specs.laws.Values.{Times, quadratic-chord, cubic-chord, quadratic_change}

-- ---- what is n seconds away has changed by at most so much for each

equal : (x y : ℤ) → nat_abs (x -ℤ y) ≤ 0 → x ≡ y
equal x y h = ring (x ∷ y ∷ []) v0 (v0 ⊖ v1 ⊕ v1) tt ∙ ap (λ (z : ℤ). z +ℤ y) (none (x -ℤ y) h) ∙ ring (y ∷ []) (num 0 ⊕ v0) v0 tt
  where
    none : (z : ℤ) → nat_abs z ≤ 0 → z ≡ pos 0
    none (pos zero) l = refl
    none (pos (suc n)) l = absurd (omega arith)
    none (negsuc n) l = absurd (omega arith)

-- f is a sine or a cosine
steady : (f : ℤ → ℤ) → ((x y : ℤ) → 100_000 * nat_abs (f x -ℤ f y) ≤ 175_200 * nat_abs (x -ℤ y) + 358_000)
    → (w n : ℕ) (x y : ℤ) → nat_abs (x -ℤ y) ≤ w * n → 100_000 * nat_abs (f x -ℤ f y) ≤ (175_200 * w + 358_000) * n
steady f b w zero x y h =
    let e : x ≡ y = equal x y (omega (arith, h)) in
    rw e (omega (arith, ap nat_abs (ring (f y ∷ []) (v0 ⊖ v0) (num 0) tt)))
steady f b w (suc n) x y h = omega (arith, b x y, h)

flipped : (x y : ℤ) → nat_abs (x -ℤ y) ≡ nat_abs (y -ℤ x)
flipped x y = ap nat_abs (ring (x ∷ y ∷ []) (v0 ⊖ v1) (opp (v1 ⊖ v0)) tt) ∙ nat_abs_opposite (y -ℤ x)

-- ---- the shadow

module _ (e : Axis) {W : ℕ} (s : AxisSizes W e) (p : Place) (placed : PlaceSizes p) {i j : ℕ} {a b c : ℤ} (t : Times i j a b c) where
  abbrev k : Moment
  k = moment_of e p a

  abbrev m : Moment
  m = moment_of e p b

  abbrev n : Moment
  n = moment_of e p c

  abbrev h : ℕ
  h = i + j

  abbrev P : ℕ
  P = i * j * (i + j)

  last : c ≡ b +ℤ pos j
  last = rw (t.c-is, t.b-is)

  -- the angles
  d-chord : 46656000000 * nat_abs (deviation i j (d_at e a) (d_at e b) (d_at e c)) ≤ 186624000000 * (i + j) + 360000 * (i * j * (i + j))
  d-chord = omega (arith, quadratic-chord t e.d 100 s.d.c2)

  H-chord : 46656000000 * nat_abs (deviation i j (H k) (H m) (H n)) ≤ 186624000000 * (i + j) + 360000 * (i * j * (i + j))
  unfolding H
  H-chord =
      omega (
        arith,
        quadratic-chord t e.mu 100 s.mu.c2,
        ap nat_abs (ring (pos i ∷ pos j ∷ μ_at e a ∷ μ_at e b ∷ μ_at e c ∷ p.longitude ∷ [])
            ((v0 ⊕ v1) ⊗ (v3 ⊕ v5) ⊖ (v1 ⊗ (v2 ⊕ v5) ⊕ v0 ⊗ (v4 ⊕ v5))) ((v0 ⊕ v1) ⊗ v3 ⊖ (v1 ⊗ v2 ⊕ v0 ⊗ v4)) tt),
      )

  d-before : nat_abs (d_at e a -ℤ d_at e b) ≤ 10 * i
  d-before = omega (arith, flipped (d_at e a) (d_at e b), quadratic_change i a b t.a_in t.b_in t.b-is e.d 20000 100 s.d.c1 s.d.c2)

  d-after : nat_abs (d_at e c -ℤ d_at e b) ≤ 10 * j
  d-after = omega (arith, quadratic_change j b c t.b_in t.c_in last e.d 20000 100 s.d.c1 s.d.c2)

  H-before : nat_abs (H k -ℤ H m) ≤ 4199 * i
  unfolding H
  H-before =
      omega (
        arith,
        quadratic_change i a b t.a_in t.b_in t.b-is e.mu 15100000 100 s.mu.c1 s.mu.c2,
        flipped (μ_at e a) (μ_at e b),
        ap nat_abs (ring (μ_at e a ∷ μ_at e b ∷ p.longitude ∷ []) (v0 ⊕ v2 ⊖ (v1 ⊕ v2)) (v0 ⊖ v1) tt),
      )

  H-after : nat_abs (H n -ℤ H m) ≤ 4199 * j
  unfolding H
  H-after =
      omega (
        arith,
        quadratic_change j b c t.b_in t.c_in last e.mu 15100000 100 s.mu.c1 s.mu.c2,
        ap nat_abs (ring (μ_at e c ∷ μ_at e b ∷ p.longitude ∷ []) (v0 ⊕ v2 ⊖ (v1 ⊕ v2)) (v0 ⊖ v1) tt),
      )

  -- their sines and cosines
  sin-H-chord : 10000 * nat_abs (deviation i j (sine (H k)) (sine (H m)) (sine (H n))) ≤ 105900 * (i + j) + 2699 * (i * j * (i + j))
  sin-H-chord = omega (arith, sine-chord i j 4199 (H k) (H m) (H n) H-before H-after, H-chord)

  cos-H-chord : 10000 * nat_abs (deviation i j (cosine (H k)) (cosine (H m)) (cosine (H n))) ≤ 105900 * (i + j) + 2699 * (i * j * (i + j))
  cos-H-chord = omega (arith, cosine-chord i j 4199 (H k) (H m) (H n) H-before H-after, H-chord)

  sin-d-chord : 10000 * nat_abs (deviation i j (sine (d_at e a)) (sine (d_at e b)) (sine (d_at e c))) ≤ 105900 * (i + j) + i * j * (i + j)
  sin-d-chord = omega (arith, sine-chord i j 10 (d_at e a) (d_at e b) (d_at e c) d-before d-after, d-chord)

  cos-d-chord : 10000 * nat_abs (deviation i j (cosine (d_at e a)) (cosine (d_at e b)) (cosine (d_at e c))) ≤ 105900 * (i + j) + i * j * (i + j)
  cos-d-chord = omega (arith, cosine-chord i j 10 (d_at e a) (d_at e b) (d_at e c) d-before d-after, d-chord)

  -- cos H times x, y, z, the sines or the cosines of d
  turned : (x y z : ℤ) → nat_abs y ≤ 100000000 → 10000 * nat_abs (deviation i j x y z) ≤ 105900 * (i + j) + i * j * (i + j)
      → 100000 * nat_abs (x -ℤ y) ≤ 2110000 * i → 100000 * nat_abs (z -ℤ y) ≤ 2110000 * j
      → 10000 * nat_abs (deviation i j (cosine (H k) *ℤ x) (cosine (H m) *ℤ y) (cosine (H n) *ℤ z)) ≤ 21180000000000 * (i + j) + 271700000000 * (i * j * (i + j))
  turned x y z hy hd hx hz =
      let A = cosine (H k) in
      let B = cosine (H m) in
      let C = cosine (H n) in
      let before : nat_abs (A -ℤ B) ≤ 7361 * i = omega (arith, steady cosine cosine_change 4199 i (H k) (H m) H-before) in
      let after : nat_abs (C -ℤ B) ≤ 7361 * j = omega (arith, steady cosine cosine_change 4199 j (H n) (H m) H-after) in
      let x-before : nat_abs (x -ℤ y) ≤ 22 * i = omega (arith, hx) in
      let x-after : nat_abs (z -ℤ y) ≤ 22 * j = omega (arith, hz) in
      omega (
        arith,
        deviation-product i j A B C x y z,
        mul-le-mul hy cos-H-chord,
        mul-le-mul (cosine-size (H m)) hd,
        mul-le-mul_left j (mul-le-mul before x-before),
        mul-le-mul_left i (mul-le-mul after x-after),
      )

  -- one·P times x, y, z, and R times cos H times f, g, l
  carried : (x y z f g l : ℤ) → 10000 * nat_abs (deviation i j x y z) ≤ 105900 * (i + j) + i * j * (i + j)
      → 10000 * nat_abs (deviation i j (cosine (H k) *ℤ f) (cosine (H m) *ℤ g) (cosine (H n) *ℤ l)) ≤ 21180000000000 * (i + j) + 271700000000 * (i * j * (i + j))
      → 10000 * (nat_abs (deviation i j (one *ℤ p.p *ℤ x) (one *ℤ p.p *ℤ y) (one *ℤ p.p *ℤ z))
      + nat_abs (deviation i j (p.r *ℤ (cosine (H k) *ℤ f)) (p.r *ℤ (cosine (H m) *ℤ g)) (p.r *ℤ (cosine (H n) *ℤ l))))
      ≤ 101000000 * (31770000000000 * (i + j) + 271800000000 * (i * j * (i + j)))
  carried x y z f g l hx hf =
      let X = deviation i j x y z in
      let F = deviation i j (cosine (H k) *ℤ f) (cosine (H m) *ℤ g) (cosine (H n) *ℤ l) in
      let big : nat_abs (one *ℤ p.p) ≤ 100000000 * 101000000 = omega (arith, nat_abs_product one p.p, placed.p) in
      omega (
        arith,
        ap nat_abs (deviation-left i j (one *ℤ p.p) x y z),
        ap nat_abs (deviation-left i j p.r (cosine (H k) *ℤ f) (cosine (H m) *ℤ g) (cosine (H n) *ℤ l)),
        nat_abs_product (one *ℤ p.p) X,
        nat_abs_product p.r F,
        mul-le-mul big hx,
        mul-le-mul placed.r hf,
      )

  η-form : (τ : ℤ) → exact_η (moment_of e p τ) ≡ one *ℤ p.p *ℤ cosine (d_at e τ) -ℤ p.r *ℤ (cosine (H (moment_of e p τ)) *ℤ sine (d_at e τ))
  unfolding exact_η exact_q
  η-form τ =
      ring (p.p ∷ p.r ∷ cosine (d_at e τ) ∷ sine (d_at e τ) ∷ cosine (H (moment_of e p τ)) ∷ [])
      (v0 ⊗ v2 ⊗ num 100000000 ⊖ v1 ⊗ v4 ⊗ v3) (num 100000000 ⊗ v0 ⊗ v2 ⊖ v1 ⊗ (v4 ⊗ v3)) tt

  ζ-form : (τ : ℤ) → exact_ζ (moment_of e p τ) ≡ one *ℤ p.p *ℤ sine (d_at e τ) +ℤ p.r *ℤ (cosine (H (moment_of e p τ)) *ℤ cosine (d_at e τ))
  unfolding exact_ζ exact_q
  ζ-form τ =
      ring (p.p ∷ p.r ∷ cosine (d_at e τ) ∷ sine (d_at e τ) ∷ cosine (H (moment_of e p τ)) ∷ [])
      (v0 ⊗ v3 ⊗ num 100000000 ⊕ v1 ⊗ v4 ⊗ v2) (num 100000000 ⊗ v0 ⊗ v3 ⊕ v1 ⊗ (v4 ⊗ v2)) tt

  -- the letters without rounding
  ξ-chord : 10000 * nat_abs (deviation i j (exact_ξ k) (exact_ξ m) (exact_ξ n)) ≤ 101000000 * (105900 * (i + j) + 2699 * (i * j * (i + j)))
  unfolding exact_ξ
  ξ-chord =
      omega (
        arith,
        ap nat_abs (deviation-left i j p.r (sine (H k)) (sine (H m)) (sine (H n))),
        nat_abs_product p.r (deviation i j (sine (H k)) (sine (H m)) (sine (H n))),
        mul-le-mul placed.r sin-H-chord,
      )

  η-chord : 10000 * nat_abs (deviation i j (exact_η k) (exact_η m) (exact_η n)) ≤ 101000000 * (31770000000000 * (i + j) + 271800000000 * (i * j * (i + j)))
  η-chord =
      let sa = sine (d_at e a) in
      let sb = sine (d_at e b) in
      let sc = sine (d_at e c) in
      let ca = cosine (d_at e a) in
      let cb = cosine (d_at e b) in
      let cc = cosine (d_at e c) in
      let A = one *ℤ p.p in
      rw (η-form a, η-form b, η-form c)
      (omega (
        arith,
        deviation-minus i j (A *ℤ ca) (A *ℤ cb) (A *ℤ cc) (p.r *ℤ (cosine (H k) *ℤ sa)) (p.r *ℤ (cosine (H m) *ℤ sb)) (p.r *ℤ (cosine (H n) *ℤ sc)),
        carried ca cb cc sa sb sc cos-d-chord
            (turned sa sb sc (sine-size (d_at e b)) sin-d-chord (steady sine sine_change 10 i (d_at e a) (d_at e b) d-before) (steady sine sine_change 10 j (d_at e c) (d_at e b) d-after)),
      ))

  ζ-chord : 10000 * nat_abs (deviation i j (exact_ζ k) (exact_ζ m) (exact_ζ n)) ≤ 101000000 * (31770000000000 * (i + j) + 271800000000 * (i * j * (i + j)))
  ζ-chord =
      let sa = sine (d_at e a) in
      let sb = sine (d_at e b) in
      let sc = sine (d_at e c) in
      let ca = cosine (d_at e a) in
      let cb = cosine (d_at e b) in
      let cc = cosine (d_at e c) in
      let A = one *ℤ p.p in
      rw (ζ-form a, ζ-form b, ζ-form c)
      (omega (
        arith,
        deviation-sum i j (A *ℤ sa) (A *ℤ sb) (A *ℤ sc) (p.r *ℤ (cosine (H k) *ℤ ca)) (p.r *ℤ (cosine (H m) *ℤ cb)) (p.r *ℤ (cosine (H n) *ℤ cc)),
        carried sa sb sc ca cb cc sin-d-chord
            (turned ca cb cc (cosine-size (d_at e b)) cos-d-chord (steady cosine cosine_change 10 i (d_at e a) (d_at e b) d-before) (steady cosine cosine_change 10 j (d_at e c) (d_at e b) d-after)),
      ))

  -- and rounded
  x-chord : (q : Cubic) → CubicSizes q → 10000 * nat_abs (deviation i j (cubic_at q a) (cubic_at q b) (cubic_at q c)) ≤ 130000 * (i + j) + 147 * (i * j * (i + j))
  x-chord q r =
      omega (
        arith,
        deviation-near i j 2 46656000000 606528000000 (cubic_at q a) (cubic_at q b) (cubic_at q c) (exact-cubic q a) (exact-cubic q b) (exact-cubic q c)
            (cubic-error a t.a_in q) (cubic-error b t.b_in q) (cubic-error c t.c_in q),
        cubic-chord t q r.c2 r.c3,
      )

  rounded-ξ : 10000 * nat_abs (deviation i j (ξ k) (ξ m) (ξ n)) ≤ 116959 * (i + j) + 2726 * (i * j * (i + j))
  unfolding ξ exact_ξ
  rounded-ξ =
      omega (
        arith,
        deviation-near i j 2 100000000 100000000 (ξ k) (ξ m) (ξ n) (exact_ξ k) (exact_ξ m) (exact_ξ n)
            (near-error (exact_ξ k) one (le_z_yes tt)) (near-error (exact_ξ m) one (le_z_yes tt)) (near-error (exact_ξ n) one (le_z_yes tt)),
        ξ-chord,
      )

  rounded-η : 10000 * nat_abs (deviation i j (η k) (η m) (η n)) ≤ 340877 * (i + j) + 2746 * (i * j * (i + j))
  rounded-η =
      omega (
        arith,
        deviation-near i j 1 10000000000000000 10000000000000000 (η k) (η m) (η n) (exact_η k) (exact_η m) (exact_η n)
            (omega (arith, η-error k)) (omega (arith, η-error m)) (omega (arith, η-error n)),
        η-chord,
      )

  rounded-ζ : 10000 * nat_abs (deviation i j (ζ k) (ζ m) (ζ n)) ≤ 340877 * (i + j) + 2746 * (i * j * (i + j))
  rounded-ζ =
      omega (
        arith,
        deviation-near i j 1 10000000000000000 10000000000000000 (ζ k) (ζ m) (ζ n) (exact_ζ k) (exact_ζ m) (exact_ζ n)
            (omega (arith, ζ-error k)) (omega (arith, ζ-error m)) (omega (arith, ζ-error n)),
        ζ-chord,
      )

  -- ---- u, v and L

  pub u-chord : 10000 * nat_abs (deviation i j (u k) (u m) (u n)) ≤ 246960 * (i + j) + 2873 * (i * j * (i + j))
  unfolding u
  u-chord = omega (arith, deviation-minus i j (x_at e a) (x_at e b) (x_at e c) (ξ k) (ξ m) (ξ n), x-chord e.x s.x, rounded-ξ)

  pub v-chord : 10000 * nat_abs (deviation i j (v k) (v m) (v n)) ≤ 470880 * (i + j) + 2893 * (i * j * (i + j))
  unfolding v
  v-chord = omega (arith, deviation-minus i j (y_at e a) (y_at e b) (y_at e c) (η k) (η m) (η n), x-chord e.y s.y, rounded-η)

  module _ (o : Cone) {w : ℕ} (r : ConeSizes w o) where
    term-chord : 10000 * nat_abs (deviation i j (near (ζ k *ℤ o.tanf) one) (near (ζ m *ℤ o.tanf) one) (near (ζ n *ℤ o.tanf) one)) ≤ 11705 * (i + j) + 14 * (i * j * (i + j))
    term-chord =
        let Z = deviation i j (ζ k) (ζ m) (ζ n) in
        omega (
          arith,
          deviation-near i j 2 100000000 100000000 (near (ζ k *ℤ o.tanf) one) (near (ζ m *ℤ o.tanf) one) (near (ζ n *ℤ o.tanf) one)
              (ζ k *ℤ o.tanf) (ζ m *ℤ o.tanf) (ζ n *ℤ o.tanf)
              (near-error (ζ k *ℤ o.tanf) one (le_z_yes tt)) (near-error (ζ m *ℤ o.tanf) one (le_z_yes tt)) (near-error (ζ n *ℤ o.tanf) one (le_z_yes tt)),
          ap nat_abs (deviation-right i j o.tanf (ζ k) (ζ m) (ζ n)),
          nat_abs_product Z o.tanf,
          mul-le-mul r.tanf rounded-ζ,
        )

    pub L-chord : 10000 * nat_abs (deviation i j (L k o) (L m o) (L n o)) ≤ 51710 * (i + j) + 22 * (i * j * (i + j))
    unfolding L
    L-chord =
        omega (
          arith,
          deviation-minus i j (l_at o a) (l_at o b) (l_at o c) (near (ζ k *ℤ o.tanf) one) (near (ζ m *ℤ o.tanf) one) (near (ζ n *ℤ o.tanf) one),
          quadratic-chord t o.l 10000 r.l.c2,
          term-chord,
        )
