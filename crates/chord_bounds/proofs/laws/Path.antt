-- The seconds of a window, counted from σ: second i of i + j against the chord of seconds 0 and i + j. With h = i + j,
--   path-chord     h times the distance of (u, v) from its chord is at most (53.2 + 0.4078 i j) h units
--   radius-chord   h times that of L at most (5.171 + 0.0022 i j) h
--   together       both at most (7/16 i j + 59) h
use Rattle.std.specs.Prelude.{[], ◌∷◌, ℕ, ◌+◌, ◌*◌, ◌≤◌, ◌<◌, ℤ, pos, nat_abs, ◌+ℤ◌, ◌*ℤ◌, ◌≤ℤ◌}
use Rattle.std.proofs.Common.{arith}
use Rattle.rounding.specs.Parts.{sum}
use Rattle.rounding.specs.laws.Order.{parts-≤, nat_abs_parts, nat_abs_by, nat_abs_product}
use Rattle.rounding.specs.laws.Ring.{num, ◌⊕◌, ◌⊗◌, ring, v0, v1, v2, v3}
use Rattle.rounding.specs.laws.Cert.{leq, lit, sq, ◌⊞◌, ◌⊠◌, certify}
use Rattle.elements.specs.declared.Axis.{Axis}
use Rattle.elements.specs.declared.Cone.{Cone}
use Rattle.elements.specs.Sizes.{AxisSizes, ConeSizes}
use Rattle.station.specs.declared.Place.{Place}
use Rattle.station.specs.Sizes.{PlaceSizes}
use Rattle.shadow_geometry.specs.Shadow.{Moment, moment_of, ◌², u, v, L}
use Rattle.shadow_geometry.specs.laws.Triangle.{squares_of_size}
use Rattle.chord_bounds.specs.laws.Deviation.{deviation}
use Rattle.chord_bounds.specs.laws.Values.{Times}
use Rattle.chord_bounds.specs.laws.Shadows.{u-chord, v-chord, L-chord}
use Rattle.chord_bounds.proofs.laws.Clear.{NearChord, path_bound}

-- the two bounds make 7/16 i j + 59, times 10,000 h, and less
pub together : (i j : ℕ)
    → 16 * ((532000 * (i + j) + 4078 * (i * j * (i + j))) + (51710 * (i + j) + 22 * (i * j * (i + j)))) ≤ 10000 * (7 * (i * j * (i + j)) + 16 * 59 * (i + j))
together i j = omega arith

module _ (e : Axis) {W : ℕ} (s : AxisSizes W e) (p : Place) (placed : PlaceSizes p) (σ : ℤ) (i j : ℕ)
    (first : nat_abs σ ≤ 10800) (last : nat_abs (σ +ℤ pos (i + j)) ≤ 10800) where
  abbrev at : ℕ → Moment
  at k = moment_of e p (σ +ℤ pos k)

  times : Times i j (σ +ℤ pos 0) (σ +ℤ pos i) (σ +ℤ pos (i + j))
  times =
      record {
        a_in = inside 0 (omega arith);
        b_in = inside i (omega arith);
        c_in = last;
        b-is = ring (σ ∷ pos i ∷ []) (v0 ⊕ v1) (v0 ⊕ num 0 ⊕ v1) tt;
        c-is = ring (σ ∷ pos i ∷ pos j ∷ []) (v0 ⊕ (v1 ⊕ v2)) (v0 ⊕ num 0 ⊕ v1 ⊕ v2) tt;
      }
    where
      inside : (k : ℕ) → k ≤ i + j → nat_abs (σ +ℤ pos k) ≤ 10800
      inside k h =
          nat_abs_by (σ +ℤ pos k)
          (omega (arith, (sum σ (pos k)).is, (sum σ (pos (i + j))).is, nat_abs_parts (σ +ℤ pos (i + j))))
          (omega (arith, (sum σ (pos k)).is, nat_abs_parts σ))

  abbrev du : ℤ
  du = deviation i j (u (at 0)) (u (at i)) (u (at (i + j)))

  abbrev dv : ℤ
  dv = deviation i j (v (at 0)) (v (at i)) (v (at (i + j)))

  pub path-chord : ((pos 10000 *ℤ du) ² +ℤ (pos 10000 *ℤ dv) ²) ≤ℤ (path_bound (pos i) (pos j) ²)
  path-chord =
      let X : ℕ = 246960 * (i + j) + 2873 * (i * j * (i + j)) in
      let Y : ℕ = 470880 * (i + j) + 2893 * (i * j * (i + j)) in
      let x : ((pos 10000 *ℤ du) ²) ≤ℤ (pos X ²) = squares_of_size (pos 10000 *ℤ du) X (omega (arith, nat_abs_product (pos 10000) du, u-chord e s p placed times)) in
      let y : ((pos 10000 *ℤ dv) ²) ≤ℤ (pos Y ²) = squares_of_size (pos 10000 *ℤ dv) Y (omega (arith, nat_abs_product (pos 10000) dv, v-chord e s p placed times)) in
      let env = pos (i + j) ∷ pos (i * j * (i + j)) ∷ du ∷ dv ∷ [] in
      let hn : pos 0 ≤ℤ pos (i + j) = parts-≤ (omega arith) in
      let pn : pos 0 ≤ℤ pos (i * j * (i + j)) = parts-≤ (omega arith) in
      let h0 = leq (num 0) v0 hn in
      let p0 = leq (num 0) v1 pn in
      let a = num 246960 ⊗ v0 ⊕ num 2873 ⊗ v1 in
      let b = num 470880 ⊗ v0 ⊕ num 2893 ⊗ v1 in
      let c = num 532000 ⊗ v0 ⊕ num 4078 ⊗ v1 in
      certify 0 env (num 10000 ⊗ v2 ⊗ (num 10000 ⊗ v2) ⊕ num 10000 ⊗ v3 ⊗ (num 10000 ⊗ v3)) (c ⊗ c)
      (leq (num 10000 ⊗ v2 ⊗ (num 10000 ⊗ v2)) (a ⊗ a) x ⊞ leq (num 10000 ⊗ v3 ⊗ (num 10000 ⊗ v3)) (b ⊗ b) y
      ⊞ lit 306784000 ⊠ sq v0 ⊞ lit 195448160 ⊠ (h0 ⊠ p0) ⊞ lit 6506 ⊠ sq v1) tt

  pub near-chord : 0 < i + j → NearChord (pos i) (pos j) (u (at 0)) (v (at 0)) (u (at (i + j))) (v (at (i + j))) (u (at i)) (v (at i))
  near-chord some = record { start = parts-≤ (omega arith); end = parts-≤ (omega arith); some = parts-≤ (omega arith); off = path-chord }

  -- both ways, so that it serves for L2 of either sign
  pub radius-chord : (o : Cone) {w : ℕ} → ConeSizes w o
      → 10000 * nat_abs (deviation i j (L (at 0) o) (L (at i) o) (L (at (i + j)) o)) ≤ 51710 * (i + j) + 22 * (i * j * (i + j))
  radius-chord o r = L-chord e s p placed times o r
