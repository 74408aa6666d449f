-- The distance less L, taken as a whole, is known to 13 units. Why: the point (u, v) is within 7 and 7½ units of its
-- exact place, so within 10.26 of it (49 + 56.25 < 10.26²), and L is within 2.505: together 12.765. Both directions
-- hold strictly, which the states at a guard of 13 need (States).
use Rattle.std.specs.Prelude.{◌≡◌, [], ◌∷◌, ℕ, ◌+◌, ◌*◌, ◌≤◌, ℤ, pos, neg_ℤ, nat_abs, ◌+ℤ◌, ◌-ℤ◌, ◌*ℤ◌, ◌≤ℤ◌, ◌<ℤ◌}
use Rattle.std.proofs.Common.{◌∙◌, ap, arith, lit≤}
use Rattle.std.proofs.Math.IntN.{ -ℤ-+ℤ_cancel}
use Rattle.std.specs.Int.Signed.{clash_ℤ}
use Rattle.rounding.specs.Parts.{sum, opposite}
use Rattle.rounding.specs.laws.Order.{zs, <ℤ-≤, le_nat_abs, neg_nat_abs, nat_abs_by}
use Rattle.rounding.specs.laws.Order.{nat_abs_sum, nat_abs_product, nat_abs_opposite, by_contra-<}
use Rattle.rounding.specs.laws.Ring.{num, ◌⊕◌, ◌⊖◌, ◌⊗◌, opp, ring, v0, v1, v2, v3, v4, v5}
use Rattle.rounding.specs.laws.Cert.{leq, less, lit, sq, ◌⊞◌, ◌⊠◌, certify, certify-<}
use Rattle.sheet_types.specs.declared.phases.Phase.{Phase}
use Rattle.sheet_types.specs.declared.phases.Phase.TheVariants.{Penumbra, Central, Star}
use Rattle.elements.specs.declared.Cone.{Cone}
use Rattle.shadow_geometry.specs.Shadow.{Moment, ◌², u, v, L, M, edge}
use Rattle.shadow_geometry.specs.Exact.{D, exact_u, exact_v, exact_L, exact_M, exact_edge, AtMost, Less, AtLeast}
use Rattle.shadow_geometry.proofs.laws.Errors.{u_error, v_error, L-inner}
use Rattle.shadow_geometry.specs.laws.Triangle.{le_of_squares, squares_of_size, triangle}

-- "the 13 below is said for every whole t with L+t not negative: where M is at most (L+t)², the exact distance is at
-- most the exact L plus t+13, and where M is at least (L+t)², it is at least the exact L plus t-13". The second holds
-- whatever the sign of L+t.
pub record Thirteen (φ : Phase) (m : Moment) (k : Cone) : Type 0 where
  pub at_most : (t : ℤ) → pos 0 ≤ℤ (edge φ (L m k) +ℤ t) → M m ≤ℤ ((edge φ (L m k) +ℤ t) ²)
      → AtMost (exact_M m) (exact_edge φ m k +ℤ (t +ℤ pos 13) *ℤ pos D)
  pub at_least : (t : ℤ) → ((edge φ (L m k) +ℤ t) ²) ≤ℤ M m
      → AtLeast (exact_M m) (exact_edge φ m k +ℤ (t -ℤ pos 13) *ℤ pos D)

-- ---- over any denominator
-- u, v and r are E, N and K over D, to 7, 7½ and 2.505 units
pub record Approximate (D : ℕ) (u v r E N K : ℤ) : Type 0 where
  pub some : 1 ≤ D
  pub u_error : nat_abs (pos D *ℤ u -ℤ E) ≤ 7 * D
  pub v_error : 2 * nat_abs (pos D *ℤ v -ℤ N) ≤ 15 * D
  pub r_error : 1000 * nat_abs (pos D *ℤ r -ℤ K) ≤ 2505 * D

-- (x, y) is within 7 and 7½ units of (p, q), which is at most a away: in hundredths, x² + y² ≤ (a + 10.26 D)². Used in
-- both directions
reach : (D : ℕ) (p q x y a : ℤ) → pos 0 ≤ℤ a → nat_abs (p -ℤ x) ≤ 7 * D → 2 * nat_abs (q -ℤ y) ≤ 15 * D → (p ² +ℤ q ²) ≤ℤ (a ²)
    → ((pos 100 *ℤ x) ² +ℤ (pos 100 *ℤ y) ²) ≤ℤ ((pos 100 *ℤ a +ℤ pos 1026 *ℤ pos D) ²)
reach D p q x y a ha hx hy h =
    let e = pos D ∷ p ∷ q ∷ x ∷ y ∷ a ∷ [] in
    let twice : nat_abs (pos 2 *ℤ (q -ℤ y)) ≤ 15 * D = omega (arith, nat_abs_product (pos 2) (q -ℤ y)) in
    let c = num 100 ⊗ v3 ⊖ num 100 ⊗ v1 in
    let d = num 100 ⊗ v4 ⊖ num 100 ⊗ v2 in
    let r = v1 ⊖ v3 in
    let s = num 2 ⊗ (v2 ⊖ v4) in
    let hD : pos 0 ≤ℤ pos D = omega (arith, zs) in
    triangle (pos 100 *ℤ p) (pos 100 *ℤ q) (pos 100 *ℤ x) (pos 100 *ℤ y) (pos 100 *ℤ a) (pos 1026 *ℤ pos D)
    (certify 0 e (num 0) (num 100 ⊗ v5) (lit 100 ⊠ leq (num 0) v5 ha) tt)
    (certify 0 e (num 0) (num 1026 ⊗ v0) (lit 1026 ⊠ leq (num 0) v0 hD) tt)
    (certify 0 e (num 100 ⊗ v1 ⊗ (num 100 ⊗ v1) ⊕ num 100 ⊗ v2 ⊗ (num 100 ⊗ v2)) (num 100 ⊗ v5 ⊗ (num 100 ⊗ v5))
    (lit 10000 ⊠ leq (v1 ⊗ v1 ⊕ v2 ⊗ v2) (v5 ⊗ v5) h) tt)
    (certify 0 e (c ⊗ c ⊕ d ⊗ d) (num 1026 ⊗ v0 ⊗ (num 1026 ⊗ v0))
    (lit 10000 ⊠ leq (r ⊗ r) (num 7 ⊗ v0 ⊗ (num 7 ⊗ v0)) (squares_of_size (p -ℤ x) (7 * D) hx)
    ⊞ lit 2500 ⊠ leq (s ⊗ s) (num 15 ⊗ v0 ⊗ (num 15 ⊗ v0)) (squares_of_size (pos 2 *ℤ (q -ℤ y)) (15 * D) twice) ⊞ lit 176 ⊠ sq v0) tt)

pub apart_sym : (a b : ℤ) → nat_abs (a -ℤ b) ≡ nat_abs (b -ℤ a)
apart_sym a b = ap nat_abs (ring (a ∷ b ∷ []) (v0 ⊖ v1) (opp (v1 ⊖ v0)) tt) ∙ nat_abs_opposite (b -ℤ a)

module _ {D : ℕ} {u v r E N K : ℤ} (a : Approximate D u v r E N K) where
  r_near : nat_abs (pos 1000 *ℤ (pos D *ℤ r -ℤ K)) ≤ 2505 * D
  r_near = omega (arith, nat_abs_product (pos 1000) (pos D *ℤ r -ℤ K), a.r_error)

  pub r-high : (pos 1000 *ℤ (pos D *ℤ r -ℤ K)) ≤ℤ (pos 2505 *ℤ pos D)
  r-high = le_nat_abs (pos 1000 *ℤ (pos D *ℤ r -ℤ K)) r_near

  pub r-low : neg_ℤ (pos 2505 *ℤ pos D) ≤ℤ (pos 1000 *ℤ (pos D *ℤ r -ℤ K))
  r-low = neg_nat_abs (pos 1000 *ℤ (pos D *ℤ r -ℤ K)) r_near

  pub some-D : pos 1 ≤ℤ pos D
  some-D = omega (arith, zs, a.some)

  -- not more than r + t: less than K + t + 13. Else the exact place is too far from (u, v)
  pub below : (t : ℤ) → pos 0 ≤ℤ (r +ℤ t) → (u ² +ℤ v ²) ≤ℤ ((r +ℤ t) ²) → Less (E ² +ℤ N ²) (K +ℤ (t +ℤ pos 13) *ℤ pos D)
  below t h m =
      let A = pos D *ℤ (r +ℤ t) in
      let e = pos D ∷ u ∷ v ∷ r ∷ t ∷ [] in
      let f = pos D ∷ E ∷ N ∷ r ∷ t ∷ K ∷ [] in
      let X = num 100 ⊗ (v0 ⊗ (v3 ⊕ v4)) ⊕ num 1026 ⊗ v0 in
      let Y = v5 ⊕ (v4 ⊕ num 13) ⊗ v0 in
      let hA : pos 0 ≤ℤ A = certify 0 e (num 0) (v0 ⊗ (v3 ⊕ v4)) ((leq (num 1) v0 some-D ⊞ lit 1) ⊠ leq (num 0) (v3 ⊕ v4) h) tt in
      let far = reach D (pos D *ℤ u) (pos D *ℤ v) E N A hA a.u_error a.v_error
      (certify 0 e (v0 ⊗ v1 ⊗ (v0 ⊗ v1) ⊕ v0 ⊗ v2 ⊗ (v0 ⊗ v2)) (v0 ⊗ (v3 ⊕ v4) ⊗ (v0 ⊗ (v3 ⊕ v4)))
      (sq v0 ⊠ leq (v1 ⊗ v1 ⊕ v2 ⊗ v2) ((v3 ⊕ v4) ⊗ (v3 ⊕ v4)) m) tt) in
      let hX : pos 0 ≤ℤ (pos 100 *ℤ A +ℤ pos 1026 *ℤ pos D) = certify 0 f (num 0) X
      (lit 100 ⊠ leq (num 0) (v0 ⊗ (v3 ⊕ v4)) hA ⊞ lit 1026 ⊠ (leq (num 1) v0 some-D ⊞ lit 1)) tt in
      let less-100 : (pos 100 *ℤ A +ℤ pos 1026 *ℤ pos D) <ℤ (pos 100 *ℤ (K +ℤ (t +ℤ pos 13) *ℤ pos D)) =
      certify-< 9 f X (num 100 ⊗ Y) (leq (num 1000 ⊗ (v0 ⊗ v3 ⊖ v5)) (num 2505 ⊗ v0) r-high ⊞ lit 235 ⊠ leq (num 1) v0 some-D ⊞ lit 225) tt in
      record {
        sign = certify 99 f (num 0) Y (leq (num 0) X hX ⊞ less X (num 100 ⊗ Y) less-100 ⊞ lit 1) tt;
        square = by_contra-< (E ² +ℤ N ²) ((K +ℤ (t +ℤ pos 13) *ℤ pos D) ²)
            (λ g. clash_ℤ less-100 (le_of_squares (pos 100 *ℤ (K +ℤ (t +ℤ pos 13) *ℤ pos D)) (pos 100 *ℤ A +ℤ pos 1026 *ℤ pos D) hX
            (certify 0 f (num 100 ⊗ Y ⊗ (num 100 ⊗ Y)) (X ⊗ X)
            (lit 10000 ⊠ leq (Y ⊗ Y) (v1 ⊗ v1 ⊕ v2 ⊗ v2) g ⊞ leq (num 100 ⊗ v1 ⊗ (num 100 ⊗ v1) ⊕ num 100 ⊗ v2 ⊗ (num 100 ⊗ v2)) (X ⊗ X) far) tt)));
      }

  -- not less than r + t: more than K + t - 13. Else (u, v) is too far from the exact place
  pub above : (t : ℤ) → ((r +ℤ t) ²) ≤ℤ (u ² +ℤ v ²) → pos 0 ≤ℤ (K +ℤ (t -ℤ pos 13) *ℤ pos D)
      → ((K +ℤ (t -ℤ pos 13) *ℤ pos D) ²) <ℤ (E ² +ℤ N ²)
  above t m h =
      let B = K +ℤ (t -ℤ pos 13) *ℤ pos D in
      let f = pos D ∷ u ∷ v ∷ r ∷ t ∷ K ∷ [] in
      let Y = v5 ⊕ (v4 ⊖ num 13) ⊗ v0 in
      let X = num 100 ⊗ Y ⊕ num 1026 ⊗ v0 in
      let W = num 100 ⊗ (v0 ⊗ (v3 ⊕ v4)) in
      by_contra-< (B ²) (E ² +ℤ N ²)
      (λ g.
      let far = reach D E N (pos D *ℤ u) (pos D *ℤ v) B h (omega (arith, apart_sym E (pos D *ℤ u), a.u_error))
      (omega (arith, apart_sym N (pos D *ℤ v), a.v_error)) g in
      clash_ℤ
      (certify-< 9 f X W (leq (opp (num 2505 ⊗ v0)) (num 1000 ⊗ (v0 ⊗ v3 ⊖ v5)) r-low ⊞ lit 235 ⊠ leq (num 1) v0 some-D ⊞ lit 225) tt)
      (le_of_squares (pos 100 *ℤ (pos D *ℤ (r +ℤ t))) (pos 100 *ℤ B +ℤ pos 1026 *ℤ pos D)
      (certify 0 f (num 0) X (lit 100 ⊠ leq (num 0) Y h ⊞ lit 1026 ⊠ (leq (num 1) v0 some-D ⊞ lit 1)) tt)
      (certify 0 f (W ⊗ W) (X ⊗ X)
      (lit 10000 ⊠ sq v0 ⊠ leq ((v3 ⊕ v4) ⊗ (v3 ⊕ v4)) (v1 ⊗ v1 ⊕ v2 ⊗ v2) m
      ⊞ leq (num 100 ⊗ (v0 ⊗ v1) ⊗ (num 100 ⊗ (v0 ⊗ v1)) ⊕ num 100 ⊗ (v0 ⊗ v2) ⊗ (num 100 ⊗ (v0 ⊗ v2))) (X ⊗ X) far) tt)))

-- ---- of a second, both phases in one: a size is no farther off than the number
-- ||y| - |z|| ≤ |y - z|
sizes_apart : (y z : ℤ) → nat_abs (pos (nat_abs y) -ℤ pos (nat_abs z)) ≤ nat_abs (y -ℤ z)
sizes_apart y z =
    let a = nat_abs y in
    let b = nat_abs z in
    let p = (sum (pos a) (neg_ℤ (pos b))).is in
    let n = (opposite (pos b)).is in
    let h : nat_abs y ≤ nat_abs (y -ℤ z) + nat_abs z = omega (arith, nat_abs_sum (y -ℤ z) z, ap nat_abs (-ℤ-+ℤ_cancel y z)) in
    let k : nat_abs z ≤ nat_abs (y -ℤ z) + nat_abs y = omega (arith, nat_abs_sum (z -ℤ y) y, ap nat_abs (-ℤ-+ℤ_cancel z y), apart_sym z y) in
    nat_abs_by (pos a -ℤ pos b) (omega (arith, p, n)) (omega (arith, p, n))

pub edge_apart : (φ : Phase) (d : ℕ) (l K : ℤ) → nat_abs (pos d *ℤ edge φ l -ℤ edge φ K) ≤ nat_abs (pos d *ℤ l -ℤ K)
edge_apart Penumbra d l K = omega arith
edge_apart Star d l K = omega arith
edge_apart Central d l K = omega (arith, sizes_apart (pos d *ℤ l) K, ap (λ (n : ℕ). nat_abs (pos n -ℤ pos (nat_abs K))) (nat_abs_product (pos d) l))

module _ (m : Moment) (t : nat_abs m.τ ≤ 10800) (k : Cone) (f : nat_abs k.tanf ≤ 500000) (φ : Phase) where
  pub approximate : Approximate D (u m) (v m) (edge φ (L m k)) (exact_u m) (exact_v m) (exact_edge φ m k)
  approximate =
      record {
        some = lit≤ tt;
        u_error = u_error m t;
        v_error = v_error m t;
        r_error = omega (arith, edge_apart φ D (L m k) (exact_L m k), L-inner m t k f);
      }

  pub thirteen : Thirteen φ m k
  thirteen =
      record {
        at_most = λ t s e. let b = below approximate t s e in record { sign = b.sign; square = <ℤ-≤ b.square };
        at_least = λ t e. record { square = λ z. <ℤ-≤ (above approximate t e z) };
      }
