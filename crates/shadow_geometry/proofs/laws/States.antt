-- The states are true of the exact values, for every guard from 13 on: inside is exactly inside, outside is exactly
-- outside, and an unsure second lies within the guard and 13 units of the cone's edge (29 for 16). Why: 13 units are
-- the most that the distance less L is off (Thirteen), strictly, so a guard of 13 already leaves the right side.
-- Unsure needs that L and the guard together are not negative: else nothing is inside, and the far side of the cone
-- would be measured. That is free for central, and within the ranges L1 is above 0 (Sizes, L1-positive).
use Rattle.std.specs.Prelude.{◌≡◌, [], ◌∷◌, ℕ, ◌≤◌, ℤ, pos, neg_ℤ, ◌+ℤ◌, ◌-ℤ◌, ◌*ℤ◌, ◌≤ℤ◌, ◌<ℤ◌}
use Rattle.std.proofs.Common.{sym, subst, ⊎_elim, arith}
use Rattle.std.specs.Int.Signed.{clash_ℤ}
use Rattle.sheet_types.specs.States.{inside, outside, unsure, SaidRightly}
use Rattle.rounding.specs.laws.Order.{zs, ≤ℤ_total, <ℤ-≤}
use Rattle.rounding.specs.laws.Ring.{num, ◌⊕◌, ◌⊖◌, ◌⊗◌, opp, ring, v0, v1, v2, v3, v4}
use Rattle.rounding.specs.laws.Cert.{leq, less, lit, ◌⊞◌, ◌⊠◌, certify, certify-<}
use Rattle.sheet_types.specs.declared.phases.Phase.{Phase}
use Rattle.elements.specs.declared.Cone.{Cone}
use Rattle.shadow_geometry.specs.Shadow.{Moment, ◌², L, M, edge, state}
use Rattle.shadow_geometry.specs.Exact.{Less, AtLeast, DiffersAtMost, ExactlyInside, WithinUnits}
use Rattle.shadow_geometry.specs.laws.ExactLaws.{less_mono}
use Rattle.shadow_geometry.proofs.laws.StateLaws.{state-says}
use Rattle.shadow_geometry.proofs.Thirteen.{Approximate, r-low, some-D, below, above}

-- the meaning of the state at a second, in a phase, under the guard g
abbrev pub StatesMean : (g : ℤ) (φ : Phase) (m : Moment) (k : Cone) → Type 0
StatesMean g φ m k = SaidRightly (state g (edge φ (L m k)) (M m)) (ExactlyInside φ m k) (WithinUnits (g +ℤ pos 13) φ m k)

-- ---- over any denominator, so for any shadow that is known so well
module _ {D : ℕ} {u v r E N K : ℤ} (a : Approximate D u v r E N K) (g : ℤ) where
  pub inside-less : pos 13 ≤ℤ g → state g r (u ² +ℤ v ²) ≡ inside → Less (E ² +ℤ N ²) K
  inside-less h e =
      let s = state-says g r (u ² +ℤ v ²) e in
      let f = pos D ∷ g ∷ r ∷ K ∷ [] in
      let h13 : pos 13 ≤ℤ g = omega (arith, zs) in
      less_mono (E ² +ℤ N ²) (K +ℤ (neg_ℤ g +ℤ pos 13) *ℤ pos D) K
      (certify 0 f (v3 ⊕ (opp v1 ⊕ num 13) ⊗ v0) v3 (leq (num 13) v1 h13 ⊠ (leq (num 1) v0 (some-D a) ⊞ lit 1)) tt)
      (below a (neg_ℤ g) (certify 0 f (num 0) (v2 ⊖ v1) (less v1 v2 s.0 ⊞ lit 1) tt) (<ℤ-≤ s.1))

  pub outside-least : pos 13 ≤ℤ g → state g r (u ² +ℤ v ²) ≡ outside → AtLeast (E ² +ℤ N ²) K
  outside-least h e =
      let s = state-says g r (u ² +ℤ v ²) e in
      let f = pos D ∷ g ∷ r ∷ K ∷ (E ² +ℤ N ²) ∷ [] in
      let B = v3 ⊕ (v1 ⊖ num 13) ⊗ v0 in
      let up : K ≤ℤ (K +ℤ (g -ℤ pos 13) *ℤ pos D) = certify 0 f v3 B (leq (num 13) v1 h ⊠ (leq (num 1) v0 (some-D a) ⊞ lit 1)) tt in
      record {
        square = λ z.
            certify 0 f (v3 ⊗ v3) v4
            (less (B ⊗ B) v4 (above a g (<ℤ-≤ s.1) (certify 0 f (num 0) B (leq (num 0) v3 z ⊞ leq v3 B up) tt)) ⊞ lit 1 ⊞ leq v3 B up ⊠ leq v3 B up
            ⊞ lit 2 ⊠ leq (num 0) v3 z ⊠ leq v3 B up) tt;
      }

  pub unsure-near : pos 0 ≤ℤ (r +ℤ g) → state g r (u ² +ℤ v ²) ≡ unsure → DiffersAtMost (E ² +ℤ N ²) K ((g +ℤ pos 13) *ℤ pos D)
  unsure-near h e =
      let s = state-says g r (u ² +ℤ v ²) e in
      let f = pos D ∷ g ∷ r ∷ K ∷ [] in
      let B = v3 ⊖ (v1 ⊕ num 13) ⊗ v0 in
      let b = below a g h s.1 in
      record {
        high = record { sign = b.sign; square = <ℤ-≤ b.square };
        low = record {
          square = λ z.
              ⊎_elim
              -- with r at most g the edge less g and 13 is negative
              (λ (k : r ≤ℤ g). clash_ℤ
              (certify-< 999 f B (num 0) (leq (opp (num 2505 ⊗ v0)) (num 1000 ⊗ (v0 ⊗ v2 ⊖ v3)) (r-low a) ⊞ lit 1000 ⊠
              (leq (num 1) v0 (some-D a) ⊞ lit 1) ⊠ leq v2 v1 k ⊞ lit 10495 ⊠ leq (num 1) v0 (some-D a) ⊞ lit 9495) tt) z)
              (λ (k : g <ℤ r). <ℤ-≤ (above-minus z (s.0 k)))
              (≤ℤ_total r g);
        };
      }
    where
      above-minus : pos 0 ≤ℤ (K -ℤ (g +ℤ pos 13) *ℤ pos D) → ((r -ℤ g) ²) ≤ℤ (u ² +ℤ v ²)
          → ((K -ℤ (g +ℤ pos 13) *ℤ pos D) ²) <ℤ (E ² +ℤ N ²)
      above-minus z k =
          let e : K +ℤ (neg_ℤ g -ℤ pos 13) *ℤ pos D ≡ K -ℤ (g +ℤ pos 13) *ℤ pos D = ring (pos D ∷ g ∷ K ∷ []) (v2 ⊕ (opp v1 ⊖ num 13) ⊗ v0)
          (v2 ⊖ (v1 ⊕ num 13) ⊗ v0) tt in
          subst (λ (B : ℤ). (B ²) <ℤ (E ² +ℤ N ²)) e (above a (neg_ℤ g) k (subst (λ (B : ℤ). pos 0 ≤ℤ B) (sym e) z))
