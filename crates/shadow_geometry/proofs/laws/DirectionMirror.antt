-- The direction of a point and that of its mirror image, with north for south, over every table that starts from 0 and
-- rises: they add up to 1799 or to 1800, modulo 3600. Exact angles would add up to 1800; each direction rounds down, so a
-- tenth is lost unless the point lies exactly on a tenth.
use Rattle.std.specs.Prelude.{◌≡◌, refl, ◌⊎◌, [], ◌∷◌, ℕ, suc, ◌+◌, ◌-◌, ◌%◌, ◌≤◌, ◌<◌, ℤ, pos, neg_ℤ, ◌*ℤ◌, ◌≤ℤ◌, ◌<ℤ◌}
use Rattle.std.proofs.Common.{◌∙◌, ap, ap₂, subst, inl, inr, ⊎_elim, arith, lt_of_not-le, eq-or-lt_of_le}
use Rattle.std.proofs.Math.IntN.{neg_ℤ-neg_ℤ}
use Rattle.std.specs.Int.Signed.{le_z_yes, clash_ℤ}
use Rattle.rounding.specs.laws.Order.{zs, ≡-parts, <ℤ-≤, ≤ℤ_antisym, ≤ℤ_total, parts-<}
use Rattle.rounding.specs.Parts.{opposite}
use Rattle.rounding.specs.laws.Ring.{v0, v1, v2, v3, v4, v5, num, ◌⊗◌}
use Rattle.rounding.specs.laws.Cert.{certify, certify-<, fact, leq, less, equ, lit, ◌⊞◌, ◌⊠◌}
use Rattle.shadow_geometry.specs.Direction.{Largest, quarter, direction}
use Rattle.shadow_geometry.specs.laws.DirectionLaws.{largest-unique, quarter-is, direction-first, direction-second, direction-third, direction-fourth, direction-none, Rising}

abbrev pub AddUp : (a b : ℕ) → Type 0
AddUp a b = ((a + b) % 3600 ≡ 1799) ⊎ ((a + b) % 3600 ≡ 1800)

-- both are 65,535, or they add up
abbrev pub Mirrored : (a b : ℕ) → Type 0
Mirrored a b = ((a ≡ 65535) × (b ≡ 65535)) ⊎ AddUp a b

below : {z : ℤ} → pos 0 <ℤ z → neg_ℤ z <ℤ pos 0
below {z} h = parts-< (omega (arith, zs, (opposite z).is))

above : {z : ℤ} → z <ℤ pos 0 → pos 0 <ℤ neg_ℤ z
above {z} h = parts-< (omega (arith, zs, (opposite z).is))

module _ (S : ℕ → ℕ) (h : Rising S) where
  -- ---- a quarter and the other way round

  -- two products cannot each be at most the other's lesser one
  crossed : (u v : ℤ) (p q r s : ℕ) → pos 0 <ℤ u → pos 0 <ℤ v → p < q → r < s
      → (v *ℤ pos s) ≤ℤ (u *ℤ pos p) → (u *ℤ pos q) ≤ℤ (v *ℤ pos r) → ⊥
  crossed u v p q r s hu hv pq rs a b =
      let gap : pos 1 ≤ℤ pos 0 = certify 0 (u ∷ v ∷ pos p ∷ pos q ∷ pos r ∷ pos s ∷ []) (num 1) (num 0)
      (leq (v1 ⊗ v5) (v0 ⊗ v2) a ⊞ leq (v0 ⊗ v3) (v1 ⊗ v4) b ⊞ fact v0 (<ℤ-≤ hu) ⊠ less v2 v3 (omega (arith, zs)) ⊞ fact v1 (<ℤ-≤ hv) ⊠ less v4 v5 (omega (arith, zs))
      ⊞ less (num 0) v0 hu ⊞ less (num 0) v1 hv ⊞ lit 1) tt in
      absurd (omega (arith, zs, gap))

  module _ (u v : ℤ) (hu : pos 0 <ℤ u) (hv : pos 0 <ℤ v) where
    one_way : Largest S u v 899 (quarter S u v)
    one_way = quarter-is S u v h.none (<ℤ-≤ hu)

    other_way : Largest S v u 899 (quarter S v u)
    other_way = quarter-is S v u h.none (<ℤ-≤ hv)

    at_least : {k j : ℕ} → Largest S u v 899 k → Largest S v u 899 j → 899 ≤ k + j
    at_least {k} {j} a b =
        omega (
          arith,
          lt_of_not-le
              (λ (g : k + j < 899).
              let e : 900 - (899 - k) ≡ suc k = omega arith in
              let f : 900 - suc k ≡ 899 - k = omega arith in
              clash_ℤ (rw e at (b.above (899 - k) (omega arith) (omega arith))) (<ℤ-≤ (rw f at (a.above (suc k) (omega arith) (omega arith))))),
        )

    at_most : {k j : ℕ} → Largest S u v 899 k → Largest S v u 899 j → k + j ≤ 900
    at_most {k} {j} a b =
        omega (
          arith,
          lt_of_not-le
              (λ (g : 900 < k + j).
              crossed u v (S (900 - k)) (S j) (S (900 - j)) (S k) hu hv (h.rises (900 - k) j (omega arith) (omega (arith, b.small)))
              (h.rises (900 - j) k (omega arith) (omega (arith, a.small))) a.holds b.holds),
        )

    pub quarters : (quarter S u v + quarter S v u ≡ 899) ⊎ (quarter S u v + quarter S v u ≡ 900)
    quarters =
        ⊎_elim (λ (e : 899 ≡ quarter S u v + quarter S v u). inl (omega arith))
        (λ (l : 899 < quarter S u v + quarter S v u). inr (omega (arith, at_most one_way other_way)))
        (eq-or-lt_of_le (at_least one_way other_way))

  -- along an axis there is no angle
  quarter-none : (v : ℤ) → pos 0 <ℤ v → quarter S (pos 0) v ≡ 0
  quarter-none v hv = largest-unique S (pos 0) v (quarter-is S (pos 0) v h.none (le_z_yes tt)) none
    where
      none : Largest S (pos 0) v 899 0
      none =
          record {
            small = omega arith;
            holds = certify 0 (v ∷ pos (S 0) ∷ pos (S 900) ∷ []) (v0 ⊗ v1) (num 0 ⊗ v2) (fact v0 (<ℤ-≤ hv) ⊠ equ v1 (num 0) (ap pos h.none)) tt;
            above = λ j i k. certify-< 0 (v ∷ pos (S j) ∷ pos (S (900 - j)) ∷ []) (num 0 ⊗ v2) (v0 ⊗ v1)
                (less (num 0) v0 hv ⊠ less (num 0) v1 (omega (arith, zs, h.rises 0 j i (omega arith), h.none)) ⊞ less (num 0) v0 hv ⊞ less (num 0) v1 (omega (arith, zs, h.rises 0 j i (omega arith), h.none))) tt;
          }

  -- ---- the five cases, of (u, v) and (u, -v)

  -- n tenths and the quarters of u and v one way and the other
  added : (u v : ℤ) (n : ℕ) {a b x y : ℕ} → pos 0 <ℤ u → pos 0 <ℤ v → a ≡ x → b ≡ y → x + y ≡ n + (quarter S u v + quarter S v u)
      → (n + 899) % 3600 ≡ 1799 → (n + 900) % 3600 ≡ 1800 → AddUp a b
  added u v n hu hv p q e low high =
      let whole = ap₂ (λ s t. s + t) p q ∙ e in
      ⊎_elim (λ (r : quarter S u v + quarter S v u ≡ 899). inl (ap (λ s. s % 3600) (whole ∙ ap (λ s. n + s) r) ∙ low))
      (λ (r : quarter S u v + quarter S v u ≡ 900). inr (ap (λ s. s % 3600) (whole ∙ ap (λ s. n + s) r) ∙ high)) (quarters u v hu hv)

  along : {a b x y : ℕ} → a ≡ x → b ≡ y → (x + y) % 3600 ≡ 1800 → AddUp a b
  along p q f = inr (ap₂ (λ s t. (s + t) % 3600) p q ∙ f)

  -- a point to the north, and its image to the south
  north : (u w : ℤ) → pos 0 <ℤ w → AddUp (direction S u w) (direction S u (neg_ℤ w))
  north u w hw = ⊎_elim (λ (h : u ≤ℤ pos 0). ⊎_elim (λ (g : pos 0 ≤ℤ u). meridian (≤ℤ_antisym h g)) west (≤ℤ_total (pos 0) u)) east (≤ℤ_total u (pos 0))
    where
      south : neg_ℤ w <ℤ pos 0
      south = below hw

      east : pos 0 <ℤ u → AddUp (direction S u w) (direction S u (neg_ℤ w))
      east hu =
          added u w 900 hu hw (direction-first S (<ℤ-≤ hu) hw)
          (direction-second S hu (<ℤ-≤ south) ∙ ap (λ z. 900 + quarter S z u) (neg_ℤ-neg_ℤ w)) (omega arith) refl refl

      west : u <ℤ pos 0 → AddUp (direction S u w) (direction S u (neg_ℤ w))
      west hu =
          added w (neg_ℤ u) 4500 hw (above hu) (direction-fourth S hu (<ℤ-≤ hw))
          (direction-third S (<ℤ-≤ hu) south ∙ ap (λ z. 1800 + quarter S (neg_ℤ u) z) (neg_ℤ-neg_ℤ w)) (omega arith) refl refl

      meridian : u ≡ pos 0 → AddUp (direction S u w) (direction S u (neg_ℤ w))
      meridian e =
          along (ap (λ z. direction S z w) e ∙ direction-first S (le_z_yes tt) hw ∙ quarter-none w hw)
          (ap (λ z. direction S z (neg_ℤ w)) e ∙ direction-third S (le_z_yes tt) south ∙ ap (λ z. 1800 + quarter S (pos 0) z) (neg_ℤ-neg_ℤ w)
          ∙ ap (λ k. 1800 + k) (quarter-none w hw)) refl

  -- a point to the east or to the west is its own image
  level : (u : ℤ) → (u ≡ pos 0 → ⊥) → AddUp (direction S u (pos 0)) (direction S u (pos 0))
  level u off = ⊎_elim (λ (h : u ≤ℤ pos 0). ⊎_elim (λ (g : pos 0 ≤ℤ u). absurd (off (≤ℤ_antisym h g))) west (≤ℤ_total (pos 0) u)) east (≤ℤ_total u (pos 0))
    where
      east : pos 0 <ℤ u → AddUp (direction S u (pos 0)) (direction S u (pos 0))
      east hu =
          let e = direction-second S hu (le_z_yes tt) ∙ ap (λ k. 900 + k) (quarter-none u hu) in
          along e e refl

      west : u <ℤ pos 0 → AddUp (direction S u (pos 0)) (direction S u (pos 0))
      west hu =
          let e = direction-fourth S hu (le_z_yes tt) ∙ ap (λ k. 2700 + k) (quarter-none (neg_ℤ u) (above hu)) in
          along e e refl

  turned : (a b : ℕ) → AddUp a b → AddUp b a
  turned a b h =
      let e : b + a ≡ a + b = omega arith in
      ⊎_elim (λ (g : (a + b) % 3600 ≡ 1799). inl (ap (λ s. s % 3600) e ∙ g)) (λ (g : (a + b) % 3600 ≡ 1800). inr (ap (λ s. s % 3600) e ∙ g)) h

  -- the point is not the origin
  pub mirrored-direction : (u v : ℤ) → (u ≡ pos 0 → v ≡ pos 0 → ⊥) → AddUp (direction S u v) (direction S u (neg_ℤ v))
  mirrored-direction u v off =
      ⊎_elim (λ (h : v ≤ℤ pos 0). ⊎_elim (λ (g : pos 0 ≤ℤ v). on-axis (≤ℤ_antisym h g)) south (≤ℤ_total (pos 0) v)) (north u v) (≤ℤ_total v (pos 0))
    where
      on-axis : v ≡ pos 0 → AddUp (direction S u v) (direction S u (neg_ℤ v))
      on-axis e = rw e (level u (λ f. off f e))

      south : v <ℤ pos 0 → AddUp (direction S u v) (direction S u (neg_ℤ v))
      south hv =
          turned (direction S u (neg_ℤ v)) (direction S u v)
          (subst (λ (z : ℤ). AddUp (direction S u (neg_ℤ v)) (direction S u z)) (neg_ℤ-neg_ℤ v) (north u (neg_ℤ v) (above hv)))

  -- "65,535" for both at the origin, or they add up
  pub direction-mirrored : (u v : ℤ) → Mirrored (direction S u v) (direction S u (neg_ℤ v))
  direction-mirrored u v = ⊎_elim west-or-on east (≤ℤ_total u (pos 0))
    where
      off-axis : (u ≡ pos 0 → v ≡ pos 0 → ⊥) → Mirrored (direction S u v) (direction S u (neg_ℤ v))
      off-axis off = inr (mirrored-direction u v off)

      east : pos 0 <ℤ u → Mirrored (direction S u v) (direction S u (neg_ℤ v))
      east h = off-axis (λ (e : u ≡ pos 0) f. absurd (omega (arith, zs, ≡-parts e)))

      origin : u ≡ pos 0 → v ≡ pos 0 → Mirrored (direction S u v) (direction S u (neg_ℤ v))
      origin e f = inl (ap₂ (λ x y. direction S x y) e f ∙ direction-none S, ap₂ (λ x y. direction S x (neg_ℤ y)) e f ∙ direction-none S)

      on : u ≡ pos 0 → Mirrored (direction S u v) (direction S u (neg_ℤ v))
      on e =
          ⊎_elim
          (λ (h : v ≤ℤ pos 0). ⊎_elim (λ (g : pos 0 ≤ℤ v). origin e (≤ℤ_antisym h g)) (λ (g : v <ℤ pos 0). off-axis (λ w (f : v ≡ pos 0). absurd (omega (arith, zs, ≡-parts f)))) (≤ℤ_total (pos 0) v))
          (λ (g : pos 0 <ℤ v). off-axis (λ w (f : v ≡ pos 0). absurd (omega (arith, zs, ≡-parts f)))) (≤ℤ_total v (pos 0))

      west-or-on : u ≤ℤ pos 0 → Mirrored (direction S u v) (direction S u (neg_ℤ v))
      west-or-on h =
          ⊎_elim (λ (g : pos 0 ≤ℤ u). on (≤ℤ_antisym h g)) (λ (g : u <ℤ pos 0). off-axis (λ (e : u ≡ pos 0) f. absurd (omega (arith, zs, ≡-parts e)))) (≤ℤ_total (pos 0) u)
