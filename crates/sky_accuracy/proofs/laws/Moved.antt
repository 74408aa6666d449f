-- From 13 to 32 units, over any denominators: the exact point (E, N) and radius Ke stand over D, the true (Ut, Vt) and
-- Kt over T. Where the points are at most 18.818 units apart and the radii 0.1235, the true distance less Kt differs
-- from the exact one less Ke by less than 19 units (`nineteen`); and so what a state says under a guard of 32 or more
-- of numbers known to 13 units is true (`inside-true`, `outside-true`, `unsure-true`).
use Rattle.std.specs.Prelude.{◌≡◌, [], ◌∷◌, ℕ, ℤ, neg_ℤ, ◌+ℤ◌, ◌-ℤ◌, ◌*ℤ◌, ◌≤ℤ◌, ◌<ℤ◌}
use Rattle.std.proofs.Common.{subst}
use Rattle.std.proofs.Math.IntN.{pos}
use Rattle.std.specs.Int.Signed.{clash_ℤ}
use Rattle.sheet_types.specs.States.{inside, outside, unsure}
use Rattle.rounding.specs.laws.Order.{by_contra, by_contra-<, <ℤ-≤}
use Rattle.rounding.specs.laws.Ring.{num, ◌⊕◌, ◌⊖◌, ◌⊗◌, opp, ring, v0, v1, v2, v3, v4, v5}
use Rattle.rounding.specs.laws.Cert.{fact, leq, less, lit, sq, ◌⊞◌, ◌⊠◌, certify, certify-<}
use Rattle.shadow_geometry.specs.Shadow.{◌², state}
use Rattle.shadow_geometry.specs.Exact.{AtMost, Less, AtLeast, DiffersAtMost}
use Rattle.shadow_geometry.specs.laws.ExactLaws.{less_mono, least_not_less}
use Rattle.shadow_geometry.proofs.laws.StateLaws.{state-says}
use Rattle.shadow_geometry.proofs.laws.States.{unsure-near}
use Rattle.shadow_geometry.proofs.Thirteen as Thirteen
use Rattle.shadow_geometry.proofs.Thirteen.{Approximate, some-D}
use Rattle.shadow_geometry.specs.laws.Triangle.{le_of_squares, triangle}
use Rattle.sky_accuracy.specs.laws.Latitude.{natural}
use Rattle.sky_accuracy.specs.Nineteen.{Nineteen}
use Rattle.sky_accuracy.specs.laws.Scaled.{unscaled-less, unscaled-least, least_mono}

-- (E, N) and Ke over D against (Ut, Vt) and Kt over T
pub record Moved (D T : ℕ) (E N Ke Ut Vt Kt : ℤ) : Type 0 where
  pub some_W : pos 1 ≤ℤ (pos D *ℤ pos T)
  pub points : ((pos 1000 *ℤ (E *ℤ pos T -ℤ Ut *ℤ pos D)) ² +ℤ (pos 1000 *ℤ (N *ℤ pos T -ℤ Vt *ℤ pos D)) ²) ≤ℤ ((pos 18_818 *ℤ (pos D *ℤ pos T)) ²)
  pub edge_high : (pos 10_000 *ℤ (pos T *ℤ Ke -ℤ pos D *ℤ Kt)) ≤ℤ (pos 1235 *ℤ (pos D *ℤ pos T))
  pub edge_low : neg_ℤ (pos 1235 *ℤ (pos D *ℤ pos T)) ≤ℤ (pos 10_000 *ℤ (pos T *ℤ Ke -ℤ pos D *ℤ Kt))

module _ {D T : ℕ} {E N Ke Ut Vt Kt : ℤ} (x : Moved D T E N Ke Ut Vt Kt) where
  W : ℤ
  W = pos D *ℤ pos T

  some_W : pos 1 ≤ℤ W
  unfolding W
  some_W = x.some_W

  eu : ℤ
  eu = E *ℤ pos T

  ev : ℤ
  ev = N *ℤ pos T

  tu : ℤ
  tu = Ut *ℤ pos D

  tv : ℤ
  tv = Vt *ℤ pos D

  points : ((pos 1000 *ℤ (eu -ℤ tu)) ² +ℤ (pos 1000 *ℤ (ev -ℤ tv)) ²) ≤ℤ ((pos 18_818 *ℤ W) ²)
  unfolding eu ev tu tv W
  points = x.points

  -- ---- "at most": the true point is not far from the exact one
  module _ (j : ℤ) where
    high : ℤ
    high = Kt *ℤ pos D +ℤ (j +ℤ pos 19 *ℤ pos D) *ℤ pos T

    reach : ℤ
    reach = pos 1000 *ℤ (pos T *ℤ (Ke +ℤ j)) +ℤ pos 18_818 *ℤ W

    -- 1000·high is 58.5 units and more beyond
    room : reach <ℤ (pos 1000 *ℤ high)
    unfolding reach high W
    room =
        certify-< 9 (pos D ∷ pos T ∷ Ke ∷ Kt ∷ j ∷ [])
        (num 1000 ⊗ (v1 ⊗ (v2 ⊕ v4)) ⊕ num 18_818 ⊗ (v0 ⊗ v1)) (num 1000 ⊗ (v3 ⊗ v0 ⊕ (v4 ⊕ num 19 ⊗ v0) ⊗ v1))
        (leq (num 10_000 ⊗ (v1 ⊗ v2 ⊖ v0 ⊗ v3)) (num 1235 ⊗ (v0 ⊗ v1)) x.edge_high ⊞ lit 585 ⊠ leq (num 1) (v0 ⊗ v1) x.some_W ⊞ lit 575) tt

    module _ (m : AtMost ((E ² +ℤ N ²)) (Ke +ℤ j)) where
      far : ((pos 1000 *ℤ tu) ² +ℤ (pos 1000 *ℤ tv) ²) ≤ℤ (reach ²)
      unfolding reach eu ev tu tv
      far =
          let a = E in
          let b = N in
          let s = num 1000 ⊗ v2 ⊖ num 1000 ⊗ (v0 ⊗ v4) in
          let r = num 1000 ⊗ v3 ⊖ num 1000 ⊗ (v1 ⊗ v4) in
          let o = num 1000 ⊗ (v0 ⊗ v4 ⊖ v2) in
          let q = num 1000 ⊗ (v1 ⊗ v4 ⊖ v3) in
          triangle (pos 1000 *ℤ eu) (pos 1000 *ℤ ev) (pos 1000 *ℤ tu) (pos 1000 *ℤ tv) (pos 1000 *ℤ (pos T *ℤ (Ke +ℤ j))) (pos 18_818 *ℤ W)
          (certify 0 (pos T ∷ Ke ∷ j ∷ []) (num 0) (num 1000 ⊗ (v0 ⊗ (v1 ⊕ v2))) (lit 1000 ⊠ fact v0 (natural T) ⊠ leq (num 0) (v1 ⊕ v2) m.sign) tt)
          (certify 0 (W ∷ []) (num 0) (num 18_818 ⊗ v0) (lit 18_818 ⊠ (leq (num 1) v0 some_W ⊞ lit 1)) tt)
          (certify 0 (a ∷ b ∷ pos T ∷ (Ke +ℤ j) ∷ []) (num 1000 ⊗ (v0 ⊗ v2) ⊗ (num 1000 ⊗ (v0 ⊗ v2)) ⊕ num 1000 ⊗ (v1 ⊗ v2) ⊗ (num 1000 ⊗ (v1 ⊗ v2)))
          (num 1000 ⊗ (v2 ⊗ v3) ⊗ (num 1000 ⊗ (v2 ⊗ v3))) (lit 1_000_000 ⊠ sq v2 ⊠ leq (v0 ⊗ v0 ⊕ v1 ⊗ v1) (v3 ⊗ v3) m.square) tt)
          (certify 0 (a ∷ b ∷ tu ∷ tv ∷ pos T ∷ W ∷ []) (s ⊗ s ⊕ r ⊗ r) (num 18_818 ⊗ v5 ⊗ (num 18_818 ⊗ v5))
          (leq (o ⊗ o ⊕ q ⊗ q) (num 18_818 ⊗ v5 ⊗ (num 18_818 ⊗ v5)) points) tt)

      reach-positive : pos 0 ≤ℤ reach
      unfolding reach
      reach-positive =
          certify 0 (pos T ∷ (Ke +ℤ j) ∷ W ∷ []) (num 0) (num 1000 ⊗ (v0 ⊗ v1) ⊕ num 18_818 ⊗ v2)
          (lit 1000 ⊠ fact v0 (natural T) ⊠ leq (num 0) v1 m.sign ⊞ lit 18_818 ⊠ (leq (num 1) v2 some_W ⊞ lit 1)) tt

      below : Less ((Ut ² +ℤ Vt ²) *ℤ (pos D *ℤ pos D)) high
      unfolding tu tv
      below =
          record {
            sign = certify 999 (reach ∷ high ∷ []) (num 0) v1 (leq (num 0) v0 reach-positive ⊞ less v0 (num 1000 ⊗ v1) room ⊞ lit 1) tt;
            square = by_contra-< ((Ut ² +ℤ Vt ²) *ℤ (pos D *ℤ pos D)) (high ²)
                (λ g. clash_ℤ room (le_of_squares (pos 1000 *ℤ high) reach reach-positive
                (certify 0 (Ut ∷ Vt ∷ pos D ∷ high ∷ reach ∷ []) (num 1000 ⊗ v3 ⊗ (num 1000 ⊗ v3)) (v4 ⊗ v4)
                (lit 1_000_000 ⊠ leq (v3 ⊗ v3) ((v0 ⊗ v0 ⊕ v1 ⊗ v1) ⊗ (v2 ⊗ v2)) g
                ⊞ leq (num 1000 ⊗ (v0 ⊗ v2) ⊗ (num 1000 ⊗ (v0 ⊗ v2)) ⊕ num 1000 ⊗ (v1 ⊗ v2) ⊗ (num 1000 ⊗ (v1 ⊗ v2))) (v4 ⊗ v4) far) tt)));
          }

    -- ---- "at least": else the exact point would not be far from the true one
    low : ℤ
    low = Kt *ℤ pos D +ℤ (j -ℤ pos 19 *ℤ pos D) *ℤ pos T

    from_low : ℤ
    from_low = pos 1000 *ℤ low +ℤ pos 18_818 *ℤ W

    low-room : from_low <ℤ (pos 1000 *ℤ (pos T *ℤ (Ke +ℤ j)))
    unfolding from_low low W
    low-room =
        certify-< 9 (pos D ∷ pos T ∷ Ke ∷ Kt ∷ j ∷ [])
        (num 1000 ⊗ (v3 ⊗ v0 ⊕ (v4 ⊖ num 19 ⊗ v0) ⊗ v1) ⊕ num 18_818 ⊗ (v0 ⊗ v1)) (num 1000 ⊗ (v1 ⊗ (v2 ⊕ v4)))
        (leq (opp (num 1235 ⊗ (v0 ⊗ v1))) (num 10_000 ⊗ (v1 ⊗ v2 ⊖ v0 ⊗ v3)) x.edge_low ⊞ lit 585 ⊠ leq (num 1) (v0 ⊗ v1) x.some_W ⊞ lit 575) tt

    module _ (m : AtLeast ((E ² +ℤ N ²)) (Ke +ℤ j)) (positive : pos 0 ≤ℤ low) (g : ((Ut ² +ℤ Vt ²) *ℤ (pos D *ℤ pos D)) <ℤ (low ²)) where
      from-low-positive : pos 0 ≤ℤ from_low
      unfolding from_low
      from-low-positive =
          certify 0 (low ∷ W ∷ []) (num 0) (num 1000 ⊗ v0 ⊕ num 18_818 ⊗ v1) (lit 1000 ⊠ leq (num 0) v0 positive ⊞ lit 18_818 ⊠ (leq (num 1) v1 some_W ⊞ lit 1)) tt

      near : ((pos 1000 *ℤ eu) ² +ℤ (pos 1000 *ℤ ev) ²) ≤ℤ (from_low ²)
      unfolding from_low eu ev tu tv
      near =
          let a = Ut in
          let b = Vt in
          let s = num 1000 ⊗ v2 ⊖ num 1000 ⊗ (v0 ⊗ v4) in
          let r = num 1000 ⊗ v3 ⊖ num 1000 ⊗ (v1 ⊗ v4) in
          let o = num 1000 ⊗ (v2 ⊖ v0 ⊗ v4) in
          let q = num 1000 ⊗ (v3 ⊖ v1 ⊗ v4) in
          triangle (pos 1000 *ℤ tu) (pos 1000 *ℤ tv) (pos 1000 *ℤ eu) (pos 1000 *ℤ ev) (pos 1000 *ℤ low) (pos 18_818 *ℤ W)
          (certify 0 (low ∷ []) (num 0) (num 1000 ⊗ v0) (lit 1000 ⊠ leq (num 0) v0 positive) tt)
          (certify 0 (W ∷ []) (num 0) (num 18_818 ⊗ v0) (lit 18_818 ⊠ (leq (num 1) v0 some_W ⊞ lit 1)) tt)
          (certify 0 (a ∷ b ∷ pos D ∷ low ∷ []) (num 1000 ⊗ (v0 ⊗ v2) ⊗ (num 1000 ⊗ (v0 ⊗ v2)) ⊕ num 1000 ⊗ (v1 ⊗ v2) ⊗ (num 1000 ⊗ (v1 ⊗ v2)))
          (num 1000 ⊗ v3 ⊗ (num 1000 ⊗ v3)) (lit 1_000_000 ⊠ (less ((v0 ⊗ v0 ⊕ v1 ⊗ v1) ⊗ (v2 ⊗ v2)) (v3 ⊗ v3) g ⊞ lit 1)) tt)
          (certify 0 (a ∷ b ∷ eu ∷ ev ∷ pos D ∷ W ∷ []) (s ⊗ s ⊕ r ⊗ r) (num 18_818 ⊗ v5 ⊗ (num 18_818 ⊗ v5))
          (leq (o ⊗ o ⊕ q ⊗ q) (num 18_818 ⊗ v5 ⊗ (num 18_818 ⊗ v5)) points) tt)

      -- T·(Ke + j) is above 0, so Ke + j is not below
      sign : pos 0 ≤ℤ (Ke +ℤ j)
      sign =
          by_contra (pos 0) (Ke +ℤ j)
          (λ l. clash_ℤ low-room (certify 0 (pos T ∷ (Ke +ℤ j) ∷ from_low ∷ []) (num 1000 ⊗ (v0 ⊗ v1)) v2
          (leq (num 0) v2 from-low-positive ⊞ lit 1000 ⊠ fact v0 (natural T) ⊠ (less v1 (num 0) l ⊞ lit 1)) tt))

      impossible : ⊥
      unfolding eu ev
      impossible =
          clash_ℤ low-room (le_of_squares (pos 1000 *ℤ (pos T *ℤ (Ke +ℤ j))) from_low from-low-positive
          (certify 0 (E ∷ N ∷ pos T ∷ (Ke +ℤ j) ∷ from_low ∷ [])
          (num 1000 ⊗ (v2 ⊗ v3) ⊗ (num 1000 ⊗ (v2 ⊗ v3))) (v4 ⊗ v4)
          (lit 1_000_000 ⊠ sq v2 ⊠ leq (v3 ⊗ v3) (v0 ⊗ v0 ⊕ v1 ⊗ v1) (m.square sign)
          ⊞ leq (num 1000 ⊗ (v0 ⊗ v2) ⊗ (num 1000 ⊗ (v0 ⊗ v2)) ⊕ num 1000 ⊗ (v1 ⊗ v2) ⊗ (num 1000 ⊗ (v1 ⊗ v2))) (v4 ⊗ v4) near) tt))

  pub nineteen : Nineteen D T E N Ke Ut Vt Kt
  unfolding high low
  nineteen =
      record {
        at_most = λ t m. below t m;
        at_least = λ t m. record { square = λ l. by_contra (low t ²) ((Ut ² +ℤ Vt ²) *ℤ (pos D *ℤ pos D)) (λ g. impossible t m l g) };
      }

  -- ---- the rule's u, v and r are E, N and Ke over D, to 13 units
  module _ {u v r : ℤ} (a : Approximate D u v r E N Ke) (g : ℤ) (enough : pos 32 ≤ℤ g) where
    pub inside-true : state g r (u ² +ℤ v ²) ≡ inside → Less (Ut ² +ℤ Vt ²) Kt
    inside-true e =
        let s = state-says g r (u ² +ℤ v ²) e in
        let j = (neg_ℤ g +ℤ pos 13) *ℤ pos D in
        let b = Thirteen.below a (neg_ℤ g) (certify 0 (g ∷ r ∷ []) (num 0) (v1 ⊖ v0) (less v0 v1 s.0 ⊞ lit 1) tt) (<ℤ-≤ s.1) in
        unscaled-less (pos D) (Ut ² +ℤ Vt ²) Kt (some-D a)
        (less_mono ((Ut ² +ℤ Vt ²) *ℤ (pos D *ℤ pos D)) (Kt *ℤ pos D +ℤ (j +ℤ pos 19 *ℤ pos D) *ℤ pos T) (Kt *ℤ pos D)
        (certify 0 (Kt ∷ pos D ∷ g ∷ pos T ∷ []) (v0 ⊗ v1 ⊕ ((opp v2 ⊕ num 13) ⊗ v1 ⊕ num 19 ⊗ v1) ⊗ v3) (v0 ⊗ v1)
        (leq (num 32) v2 enough ⊠ fact v1 (natural D) ⊠ fact v3 (natural T)) tt)
        (nineteen.at_most j (record { sign = b.sign; square = <ℤ-≤ b.square })))

    pub outside-true : state g r (u ² +ℤ v ²) ≡ outside → Less (Ut ² +ℤ Vt ²) Kt → ⊥
    outside-true e =
        let s = state-says g r (u ² +ℤ v ²) e in
        let j = (g -ℤ pos 13) *ℤ pos D in
        least_not_less (unscaled-least (pos D) (Ut ² +ℤ Vt ²) Kt (some-D a)
        (least_mono ((Ut ² +ℤ Vt ²) *ℤ (pos D *ℤ pos D)) (Kt *ℤ pos D) (Kt *ℤ pos D +ℤ (j -ℤ pos 19 *ℤ pos D) *ℤ pos T)
        (certify 0 (Kt ∷ pos D ∷ g ∷ pos T ∷ []) (v0 ⊗ v1) (v0 ⊗ v1 ⊕ ((v2 ⊖ num 13) ⊗ v1 ⊖ num 19 ⊗ v1) ⊗ v3)
        (leq (num 32) v2 enough ⊠ fact v1 (natural D) ⊠ fact v3 (natural T)) tt)
        (nineteen.at_least j (record { square = λ z. <ℤ-≤ (Thirteen.above a g (<ℤ-≤ s.1) z) }))))

  -- an unsure one is within the guard and 32 units of the true edge
  pub unsure-true : {u v r : ℤ} (a : Approximate D u v r E N Ke) (g : ℤ) → pos 0 ≤ℤ (r +ℤ g) → state g r (u ² +ℤ v ²) ≡ unsure
      → DiffersAtMost (Ut ² +ℤ Vt ²) Kt ((g +ℤ pos 32) *ℤ pos T)
  unsure-true a g z e =
      let h = unsure-near a g z e in
      let q = (g +ℤ pos 32) *ℤ pos T in
      let j = (g +ℤ pos 13) *ℤ pos D in
      let above : Less (Ut ² +ℤ Vt ²) (Kt +ℤ q) =
      unscaled-less (pos D) (Ut ² +ℤ Vt ²) (Kt +ℤ q) (some-D a)
      (subst (λ (x : ℤ). Less ((Ut ² +ℤ Vt ²) *ℤ (pos D *ℤ pos D)) x)
      (ring (Kt ∷ pos D ∷ g ∷ pos T ∷ []) (v0 ⊗ v1 ⊕ ((v2 ⊕ num 13) ⊗ v1 ⊕ num 19 ⊗ v1) ⊗ v3) ((v0 ⊕ (v2 ⊕ num 32) ⊗ v3) ⊗ v1) tt) (nineteen.at_most j h.high)) in
      record {
        high = record { sign = above.sign; square = <ℤ-≤ above.square };
        low =
            unscaled-least (pos D) (Ut ² +ℤ Vt ²) (Kt -ℤ q) (some-D a)
            (subst (λ (x : ℤ). AtLeast ((Ut ² +ℤ Vt ²) *ℤ (pos D *ℤ pos D)) x)
            (ring (Kt ∷ pos D ∷ g ∷ pos T ∷ []) (v0 ⊗ v1 ⊕ (opp ((v2 ⊕ num 13) ⊗ v1) ⊖ num 19 ⊗ v1) ⊗ v3) ((v0 ⊖ (v2 ⊕ num 32) ⊗ v3) ⊗ v1) tt)
            (nineteen.at_least (neg_ℤ j) h.low));
      }
