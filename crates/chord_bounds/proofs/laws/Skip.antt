-- Seconds between two computed ones, h apart, under the guard G: what the margins of both ends show, all between have.
--   outside   both ends are out, in the direction of the nearer, by margins that span the bend: outside
--   inside    both ends are in by margins that span the bend, with L of one sign at both: inside
--   later     the same against a distance a: M is more than a²
-- A margin is what is left of a distance after the radius, the guard and the 59 units of `slack`; margins α and β span where α + β ≥ Q or
-- 4 α β > (Q - α - β)², with a Q of at least 7/16 h².
use Rattle.std.specs.Prelude.{◌≡◌, refl, [], ◌∷◌, ◌⊎◌, ℕ, ◌+◌, ◌*◌, ◌≤◌, ◌<◌, ℤ, pos, negsuc, neg_ℤ, nat_abs, ◌+ℤ◌, ◌-ℤ◌, ◌*ℤ◌, ◌≤ℤ◌, ◌<ℤ◌}
use Rattle.std.proofs.Common.{◌∙◌, ap, ap₂, ⊎_elim, arith}
use Rattle.sheet_types.specs.States as States
use Rattle.rounding.specs.laws.Order.{≤-parts, parts-≤, nat_abs_opposite, nat_abs_sum, nat_abs_minus, nat_abs_product}
use Rattle.rounding.specs.laws.Ring.{num, ◌⊕◌, ◌⊖◌, ◌⊗◌, opp, ring, v0, v1, v2, v3, v4}
use Rattle.rounding.specs.laws.Cert.{leq, less, lit, ◌⊞◌, ◌⊠◌, certify, certify-<}
use Rattle.elements.specs.declared.Axis.{Axis}
use Rattle.elements.specs.declared.Cone.{Cone}
use Rattle.elements.specs.Sizes.{AxisSizes, ConeSizes}
use Rattle.station.specs.declared.Place.{Place}
use Rattle.station.specs.Sizes.{PlaceSizes}
use Rattle.shadow_geometry.specs.Shadow.{Moment, moment_of, ◌², u, v, L, M, state}
use Rattle.shadow_geometry.proofs.laws.Sizes.{M_nonneg}
use Rattle.shadow_geometry.proofs.laws.StateLaws.{state-edge}
use Rattle.chord_bounds.specs.laws.Deviation.{deviation}
use Rattle.chord_bounds.specs.Margins.{slack, Spans, OneSign}
use Rattle.chord_bounds.proofs.laws.MarginLaws.{root_free}
use Rattle.chord_bounds.proofs.laws.Clear.{radius_bound, NearChord, backward, beyond, within}
use Rattle.chord_bounds.proofs.laws.Path.{near-chord, radius-chord}

-- ---- what is asked of two ends

-- the margins α and β span the bend of seconds h apart
pub record Spanned (h α β : ℤ) : Type 0 where
  pub Q : ℤ
  pub enough : (pos 7 *ℤ (h *ℤ h)) ≤ℤ (pos 16 *ℤ Q)
  pub first : pos 1 ≤ℤ α
  pub second : pos 1 ≤ℤ β
  pub spans : Spans α β Q

-- (p, q) is out by α, and (x, y), in the direction of (p, q), by β; n is at least the distance of (p, q)
pub record Outward (G h r s p q x y : ℤ) : Type 0 where
  pub α : ℤ
  pub β : ℤ
  pub spanned : Spanned h α β
  pub n : ℤ
  pub nonneg : pos 0 ≤ℤ n
  pub out : ((α +ℤ r +ℤ G +ℤ pos slack) ²) ≤ℤ (p ² +ℤ q ²)
  pub longer : (p ² +ℤ q ²) ≤ℤ (n ²)
  pub along : ((β +ℤ s +ℤ G +ℤ pos slack) *ℤ n) ≤ℤ (p *ℤ x +ℤ q *ℤ y)

-- squares m and o are inside the radii r and s by α and β, without a root
pub record Inward (G h r s m o : ℤ) : Type 0 where
  pub α : ℤ
  pub β : ℤ
  pub spanned : Spanned h α β
  pub first : pos 1 ≤ℤ r
  pub second : pos 1 ≤ℤ s
  pub start : (pos 2 *ℤ (r *ℤ (α +ℤ G +ℤ pos slack))) ≤ℤ (r ² -ℤ m)
  pub end : (pos 2 *ℤ (s *ℤ (β +ℤ G +ℤ pos slack))) ≤ℤ (s ² -ℤ o)

-- from either end
abbrev pub Out : (G h r s p q x y : ℤ) → Type 0
Out G h r s p q x y = Outward G h r s p q x y ⊎ Outward G h s r x y p q

-- ---- what that shows of the one between

module _ (G : ℤ) (G0 : pos 0 ≤ℤ G) where
  skip-beyond : {I J p q x y f g : ℤ} → NearChord I J p q x y f g → (r s t : ℤ) → pos 0 ≤ℤ r → pos 0 ≤ℤ s → pos 0 ≤ℤ t
      → (pos 10000 *ℤ ((I +ℤ J) *ℤ t)) ≤ℤ (pos 10000 *ℤ (J *ℤ r +ℤ I *ℤ s) +ℤ radius_bound I J)
      → Out G (I +ℤ J) r s p q x y → ((t +ℤ G) ²) <ℤ (f ² +ℤ g ²)
  skip-beyond {I} {J} {p} {q} {x} {y} b r s t hr hs ht above =
      let e = I ∷ J ∷ r ∷ s ∷ t ∷ [] in
      let z = v0 ⊕ v1 in
      let Z = v1 ⊕ v0 in
      ⊎_elim
      (λ (o : Outward G (I +ℤ J) r s p q x y).
      beyond b G r s t o.α o.β o.spanned.Q o.spanned.first o.spanned.second o.spanned.enough o.spanned.spans
      o.n G0 hr hs ht o.nonneg o.out o.longer o.along above)
      (λ (o : Outward G (I +ℤ J) s r x y p q).
      beyond (backward b) G s r t o.α o.β o.spanned.Q o.spanned.first o.spanned.second
      (certify 0 (I ∷ J ∷ o.spanned.Q ∷ []) (num 7 ⊗ (Z ⊗ Z)) (num 16 ⊗ v2) (leq (num 7 ⊗ (z ⊗ z)) (num 16 ⊗ v2) o.spanned.enough) tt) o.spanned.spans
      o.n G0 hs hr ht o.nonneg o.out o.longer o.along
      (certify 0 e (num 10000 ⊗ (Z ⊗ v4)) (num 10000 ⊗ (v0 ⊗ v3 ⊕ v1 ⊗ v2) ⊕ (num 51710 ⊗ Z ⊕ num 22 ⊗ (v1 ⊗ v0 ⊗ Z)))
      (leq (num 10000 ⊗ (z ⊗ v4)) (num 10000 ⊗ (v1 ⊗ v2 ⊕ v0 ⊗ v3) ⊕ (num 51710 ⊗ z ⊕ num 22 ⊗ (v0 ⊗ v1 ⊗ z))) above) tt))

  -- t is at least 0 and at most the chord's and its bound
  skip-outside : {I J p q x y f g : ℤ} → NearChord I J p q x y f g → (r s t : ℤ) → pos 0 ≤ℤ r → pos 0 ≤ℤ s → pos 0 ≤ℤ t
      → (pos 10000 *ℤ ((I +ℤ J) *ℤ t)) ≤ℤ (pos 10000 *ℤ (J *ℤ r +ℤ I *ℤ s) +ℤ radius_bound I J)
      → Out G (I +ℤ J) r s p q x y → state G t (f ² +ℤ g ²) ≡ States.outside
  skip-outside {f = f} {g = g} b r s t hr hs ht above o =
      let e = t ∷ (f ² +ℤ g ²) ∷ G ∷ [] in
      let far = skip-beyond b r s t hr hs ht above o in
      state-edge G t (f ² +ℤ g ²) States.outside (
        (λ h. certify 0 e ((v0 ⊖ v2) ⊗ (v0 ⊖ v2)) v1 (less ((v0 ⊕ v2) ⊗ (v0 ⊕ v2)) v1 far ⊞ lit 1 ⊞ lit 4 ⊠ leq (num 0) v0 ht ⊠ leq (num 0) v2 G0) tt),
        far,
      )

  skip-inside : {I J p q x y f g : ℤ} → NearChord I J p q x y f g → (r s t : ℤ) → pos 0 ≤ℤ (p ² +ℤ q ²) → pos 0 ≤ℤ (x ² +ℤ y ²)
      → (pos 10000 *ℤ (J *ℤ r +ℤ I *ℤ s)) ≤ℤ (pos 10000 *ℤ ((I +ℤ J) *ℤ t) +ℤ radius_bound I J)
      → Inward G (I +ℤ J) r s (p ² +ℤ q ²) (x ² +ℤ y ²) → state G t (f ² +ℤ g ²) ≡ States.inside
  skip-inside {p = p} {q = q} {x = x} {y = y} {f = f} {g = g} b r s t m0 o0 below w =
      let a = root_free r (p ² +ℤ q ²) (w.α +ℤ G +ℤ pos slack) w.first m0 w.start in
      let c = root_free s (x ² +ℤ y ²) (w.β +ℤ G +ℤ pos slack) w.second o0 w.end in
      state-edge G t (f ² +ℤ g ²) States.inside
      (within b G r s t w.α w.β w.spanned.Q w.spanned.first w.spanned.second w.spanned.enough w.spanned.spans a.0 c.0 a.1 c.1 below)

-- ---- the radii, by their sizes

module _ (i j : ℕ) (k m n : ℤ) (h : 10000 * nat_abs (deviation i j k m n) ≤ 51710 * (i + j) + 22 * (i * j * (i + j))) where
  above : (pos 10000 *ℤ ((pos i +ℤ pos j) *ℤ pos (nat_abs m))) ≤ℤ (pos 10000 *ℤ (pos j *ℤ pos (nat_abs k) +ℤ pos i *ℤ pos (nat_abs n)) +ℤ radius_bound (pos i) (pos j))
  above =
      let c = pos j *ℤ k +ℤ pos i *ℤ n in
      let d = deviation i j k m n in
      parts-≤ (omega (
        arith,
        h,
        ap nat_abs (ring ((pos (i + j) *ℤ m) ∷ c ∷ []) v0 (v0 ⊖ v1 ⊕ v1) tt),
        nat_abs_sum d c,
        nat_abs_product (pos (i + j)) m,
        nat_abs_sum (pos j *ℤ k) (pos i *ℤ n),
        nat_abs_product (pos j) k,
        nat_abs_product (pos i) n,
      ))

  -- where L has one sign at both ends
  below : nat_abs (pos j *ℤ k +ℤ pos i *ℤ n) ≡ j * nat_abs k + i * nat_abs n
      → (pos 10000 *ℤ (pos j *ℤ pos (nat_abs k) +ℤ pos i *ℤ pos (nat_abs n))) ≤ℤ (pos 10000 *ℤ ((pos i +ℤ pos j) *ℤ pos (nat_abs m)) +ℤ radius_bound (pos i) (pos j))
  below one =
      let c = pos j *ℤ k +ℤ pos i *ℤ n in
      let a = pos (i + j) *ℤ m in
      let d = deviation i j k m n in
      parts-≤ (omega (
        arith,
        h,
        one,
        ap nat_abs (ring (a ∷ c ∷ []) v1 (v0 ⊖ (v0 ⊖ v1)) tt),
        nat_abs_minus a d,
        nat_abs_product (pos (i + j)) m,
      ))

one_sign : (i j : ℕ) (k n : ℤ) → OneSign k n → nat_abs (pos j *ℤ k +ℤ pos i *ℤ n) ≡ j * nat_abs k + i * nat_abs n
one_sign i j k n =
    ⊎_elim (λ (h : (pos 0 ≤ℤ k) × (pos 0 ≤ℤ n)). up k n h.0 h.1)
    (λ (h : (k ≤ℤ pos 0) × (n ≤ℤ pos 0)). down k n h.0 h.1)
  where
    up : (k n : ℤ) → pos 0 ≤ℤ k → pos 0 ≤ℤ n → nat_abs (pos j *ℤ k +ℤ pos i *ℤ n) ≡ j * nat_abs k + i * nat_abs n
    up (pos a) (pos b) h l = refl
    up (pos a) (negsuc b) h l = absurd l.le
    up (negsuc a) n h l = absurd h.le

    minus : (k : ℤ) → k ≤ℤ pos 0 → k ≡ neg_ℤ (pos (nat_abs k))
    minus (pos a) h = let z : a ≡ 0 = omega (arith, ≤-parts h) in rw z
    minus (negsuc a) h = refl

    down : (k n : ℤ) → k ≤ℤ pos 0 → n ≤ℤ pos 0 → nat_abs (pos j *ℤ k +ℤ pos i *ℤ n) ≡ j * nat_abs k + i * nat_abs n
    down k n h l =
        ap nat_abs (ap₂ (λ (a b : ℤ). pos j *ℤ a +ℤ pos i *ℤ b) (minus k h) (minus n l)
        ∙ ring (pos i ∷ pos j ∷ pos (nat_abs k) ∷ pos (nat_abs n) ∷ []) (v1 ⊗ opp v2 ⊕ v0 ⊗ opp v3) (opp (v1 ⊗ v2 ⊕ v0 ⊗ v3)) tt)
        ∙ nat_abs_opposite (pos (j * nat_abs k + i * nat_abs n))

-- ---- a window's seconds: i after σ, and j before σ + i + j

module _ (G : ℤ) (G0 : pos 0 ≤ℤ G) (e : Axis) {W : ℕ} (s : AxisSizes W e) (p : Place) (placed : PlaceSizes p) (σ : ℤ)
    (i j : ℕ) (some : 0 < i + j) (first : nat_abs σ ≤ 10800) (last : nat_abs (σ +ℤ pos (i + j)) ≤ 10800) where
  abbrev at : ℕ → Moment
  at k = moment_of e p (σ +ℤ pos k)

  abbrev h : ℤ
  h = pos i +ℤ pos j

  chord : NearChord (pos i) (pos j) (u (at 0)) (v (at 0)) (u (at (i + j))) (v (at (i + j))) (u (at i)) (v (at i))
  chord = near-chord e s p placed σ i j first last some

  -- M is more than a² at each second between
  pub later : (a : ℤ) → pos 0 ≤ℤ a → Out (pos 0) h a a (u (at 0)) (v (at 0)) (u (at (i + j))) (v (at (i + j))) → (a ²) <ℤ M (at i)
  later a ha o =
      let w = pos i ∷ pos j ∷ a ∷ [] in
      let z = v0 ⊕ v1 in
      let ni : pos 0 ≤ℤ pos i = parts-≤ (omega arith) in
      let nj : pos 0 ≤ℤ pos j = parts-≤ (omega arith) in
      let i0 = leq (num 0) v0 ni in
      let j0 = leq (num 0) v1 nj in
      let m = a ∷ M (at i) ∷ [] in
      let far : ((a +ℤ pos 0) ²) <ℤ M (at i) =
      skip-beyond (pos 0) (parts-≤ (omega arith)) chord a a a ha ha ha
      (certify 0 w (num 10000 ⊗ (z ⊗ v2)) (num 10000 ⊗ (v1 ⊗ v2 ⊕ v0 ⊗ v2) ⊕ (num 51710 ⊗ z ⊕ num 22 ⊗ (v0 ⊗ v1 ⊗ z)))
      (lit 51710 ⊠ (i0 ⊞ j0) ⊞ lit 22 ⊠ (i0 ⊠ j0 ⊠ (i0 ⊞ j0))) tt) o in
      certify-< 0 m (v0 ⊗ v0) v1 (less ((v0 ⊕ num 0) ⊗ (v0 ⊕ num 0)) v1 far) tt

  module _ (o : Cone) {w : ℕ} (r : ConeSizes w o) where
    -- the sizes of L at the start, at i and at the end
    abbrev size : ℕ → ℤ
    size k = pos (nat_abs (L (at k) o))

    radius : 10000 * nat_abs (deviation i j (L (at 0) o) (L (at i) o) (L (at (i + j)) o)) ≤ 51710 * (i + j) + 22 * (i * j * (i + j))
    radius = radius-chord e s p placed σ i j first last o r

    pub outside : Out G h (size 0) (size (i + j)) (u (at 0)) (v (at 0)) (u (at (i + j))) (v (at (i + j))) → state G (size i) (M (at i)) ≡ States.outside
    outside =
        skip-outside G G0 chord (size 0) (size (i + j)) (size i) (parts-≤ (omega arith)) (parts-≤ (omega arith)) (parts-≤ (omega arith))
        (above i j (L (at 0) o) (L (at i) o) (L (at (i + j)) o) radius)

    pub inside : OneSign (L (at 0) o) (L (at (i + j)) o) → Inward G h (size 0) (size (i + j)) (M (at 0)) (M (at (i + j))) → state G (size i) (M (at i)) ≡ States.inside
    inside sign =
        skip-inside G G0 chord (size 0) (size (i + j)) (size i) (M_nonneg (at 0)) (M_nonneg (at (i + j)))
        (below i j (L (at 0) o) (L (at i) o) (L (at (i + j)) o) radius (one_sign i j (L (at 0) o) (L (at (i + j)) o) sign))
