-- Two seconds, and one between them that is near their chord: if the margins at both ends span the bend, it is on the same side.
--   beyond     both ends are out by their margins, one in its own direction and the other in that direction too: so is the one between
--   within     both ends are inside by their margins: so is the one between
-- `slack` is the 59 units that every second may be off its chord, with the radius; what grows with the distance of the ends is 7/16 i j.
use Rattle.std.specs.Prelude.{[], ◌∷◌, ◌+◌, ℤ, pos, ◌+ℤ◌, ◌-ℤ◌, ◌*ℤ◌, ◌≤ℤ◌, ◌<ℤ◌}
use Rattle.std.specs.Int.Signed.{clash_ℤ}
use Rattle.rounding.specs.laws.Order.{minus_nonneg, +ℤ_nonneg}
use Rattle.rounding.specs.laws.Ring.{num, ◌⊕◌, ◌⊖◌, ◌⊗◌, v0, v1, v2, v3, v4, v5, v6, v7}
use Rattle.rounding.specs.laws.Cert.{leq, less, lit, sq, ◌⊞◌, ◌⊠◌, certify, certify-<}
use Rattle.shadow_geometry.specs.Shadow.{◌²}
use Rattle.shadow_geometry.specs.laws.Triangle.{le_of_squares, triangle}
use Rattle.chord_bounds.specs.Margins.{slack, Spans}
use Rattle.chord_bounds.proofs.laws.MarginLaws.{by_contra-<, margins-over}

-- 10,000 (I + J) times how far the path may be off the chord, and the radius
abbrev pub path_bound : ℤ → ℤ → ℤ
path_bound I J = pos 532000 *ℤ (I +ℤ J) +ℤ pos 4078 *ℤ (I *ℤ J *ℤ (I +ℤ J))

abbrev pub radius_bound : ℤ → ℤ → ℤ
radius_bound I J = pos 51710 *ℤ (I +ℤ J) +ℤ pos 22 *ℤ (I *ℤ J *ℤ (I +ℤ J))

-- (u, v) is I after (p, q) and J before (x, y), and off their chord by at most that
pub record NearChord (I J p q x y u v : ℤ) : Type 0 where
  pub start : pos 0 ≤ℤ I
  pub end : pos 0 ≤ℤ J
  pub some : pos 1 ≤ℤ (I +ℤ J)
  pub off : ((pos 10000 *ℤ ((I +ℤ J) *ℤ u -ℤ (J *ℤ p +ℤ I *ℤ x))) ² +ℤ (pos 10000 *ℤ ((I +ℤ J) *ℤ v -ℤ (J *ℤ q +ℤ I *ℤ y))) ²) ≤ℤ (path_bound I J ²)

-- seen from the other end
pub backward : {I J p q x y u v : ℤ} → NearChord I J p q x y u v → NearChord J I x y p q u v
backward {I} {J} {p} {q} {x} {y} {u} {v} b =
    let e = I ∷ J ∷ p ∷ q ∷ x ∷ y ∷ u ∷ v ∷ [] in
    let s = v0 ⊕ v1 in
    let S = v1 ⊕ v0 in
    let c = num 10000 ⊗ (s ⊗ v6 ⊖ (v1 ⊗ v2 ⊕ v0 ⊗ v4)) in
    let d = num 10000 ⊗ (s ⊗ v7 ⊖ (v1 ⊗ v3 ⊕ v0 ⊗ v5)) in
    let C = num 10000 ⊗ (S ⊗ v6 ⊖ (v0 ⊗ v4 ⊕ v1 ⊗ v2)) in
    let D = num 10000 ⊗ (S ⊗ v7 ⊖ (v0 ⊗ v5 ⊕ v1 ⊗ v3)) in
    let B = num 532000 ⊗ s ⊕ num 4078 ⊗ (v0 ⊗ v1 ⊗ s) in
    let R = num 532000 ⊗ S ⊕ num 4078 ⊗ (v1 ⊗ v0 ⊗ S) in
    record {
      start = b.end;
      end = b.start;
      some = certify 0 e (num 1) S (leq (num 1) s b.some) tt;
      off = certify 0 e (C ⊗ C ⊕ D ⊗ D) (R ⊗ R) (leq (c ⊗ c ⊕ d ⊗ d) (B ⊗ B) b.off) tt;
    }

module _ {I J p q x y f g : ℤ} (b : NearChord I J p q x y f g) where
  abbrev H : ℤ
  H = I +ℤ J

  abbrev B : ℤ
  B = path_bound I J

  H0 : pos 0 ≤ℤ H
  H0 = +ℤ_nonneg b.start b.end

  B0 : pos 0 ≤ℤ B
  B0 =
      certify 0 (I ∷ J ∷ []) (num 0) (num 532000 ⊗ (v0 ⊕ v1) ⊕ num 4078 ⊗ (v0 ⊗ v1 ⊗ (v0 ⊕ v1)))
      (lit 532000 ⊠ leq (num 0) (v0 ⊕ v1) H0 ⊞ lit 4078 ⊠ (leq (num 0) v0 b.start ⊠ leq (num 0) v1 b.end ⊠ leq (num 0) (v0 ⊕ v1) H0)) tt

  -- (f, g) is at most ρ away: then the chord's point is at most ρ and the bound away
  chord-near : (ρ : ℤ) → pos 0 ≤ℤ ρ → (f ² +ℤ g ²) ≤ℤ (ρ ²)
      → ((pos 10000 *ℤ (J *ℤ p +ℤ I *ℤ x)) ² +ℤ (pos 10000 *ℤ (J *ℤ q +ℤ I *ℤ y)) ²) ≤ℤ ((pos 10000 *ℤ (H *ℤ ρ) +ℤ B) ²)
  chord-near ρ hρ h =
      let cu = J *ℤ p +ℤ I *ℤ x in
      let cv = J *ℤ q +ℤ I *ℤ y in
      let e = H ∷ f ∷ g ∷ ρ ∷ cu ∷ cv ∷ B ∷ [] in
      let c = num 10000 ⊗ (v0 ⊗ v1 ⊖ v4) in
      let d = num 10000 ⊗ (v0 ⊗ v2 ⊖ v5) in
      triangle (pos 10000 *ℤ (H *ℤ f)) (pos 10000 *ℤ (H *ℤ g)) (pos 10000 *ℤ cu) (pos 10000 *ℤ cv) (pos 10000 *ℤ (H *ℤ ρ)) B
      (certify 0 e (num 0) (num 10000 ⊗ (v0 ⊗ v3)) (lit 10000 ⊠ (leq (num 0) v0 H0 ⊠ leq (num 0) v3 hρ)) tt)
      B0
      (certify 0 e (num 10000 ⊗ (v0 ⊗ v1) ⊗ (num 10000 ⊗ (v0 ⊗ v1)) ⊕ num 10000 ⊗ (v0 ⊗ v2) ⊗ (num 10000 ⊗ (v0 ⊗ v2))) (num 10000 ⊗ (v0 ⊗ v3) ⊗ (num 10000 ⊗ (v0 ⊗ v3)))
      (lit 100000000 ⊠ sq v0 ⊠ leq (v1 ⊗ v1 ⊕ v2 ⊗ v2) (v3 ⊗ v3) h) tt)
      (certify 0 e ((num 10000 ⊗ v4 ⊖ num 10000 ⊗ (v0 ⊗ v1)) ⊗ (num 10000 ⊗ v4 ⊖ num 10000 ⊗ (v0 ⊗ v1)) ⊕ (num 10000 ⊗ v5 ⊖ num 10000 ⊗ (v0 ⊗ v2)) ⊗ (num 10000 ⊗ v5 ⊖ num 10000 ⊗ (v0 ⊗ v2)))
      (v6 ⊗ v6) (leq (c ⊗ c ⊕ d ⊗ d) (v6 ⊗ v6) b.off) tt)

  -- the start is at least k out, the end at least l in the direction of the start, n is at least the start's distance: then the chord's point is at least
  -- J k + I l away
  chord-far : (k l n C : ℤ) → pos 1 ≤ℤ k → pos 0 ≤ℤ l → pos 0 ≤ℤ n → pos 0 ≤ℤ C → (k ²) ≤ℤ (p ² +ℤ q ²) → (p ² +ℤ q ²) ≤ℤ (n ²) → (l *ℤ n) ≤ℤ (p *ℤ x +ℤ q *ℤ y)
      → C <ℤ (pos 10000 *ℤ (J *ℤ k +ℤ I *ℤ l))
      → ((pos 10000 *ℤ (J *ℤ p +ℤ I *ℤ x)) ² +ℤ (pos 10000 *ℤ (J *ℤ q +ℤ I *ℤ y)) ²) ≤ℤ (C ²) → ⊥
  chord-far k l n C hk hl hn hC hm mn ln hA near =
      let m = p ² +ℤ q ² in
      let dot = p *ℤ x +ℤ q *ℤ y in
      let S = J *ℤ m +ℤ I *ℤ dot in
      let T = J *ℤ m +ℤ I *ℤ (l *ℤ n) in
      let A = J *ℤ k +ℤ I *ℤ l in
      let kn : k ≤ℤ n = le_of_squares k n hn (certify 0 ((k ²) ∷ m ∷ (n ²) ∷ []) v0 v2 (leq v0 v1 hm ⊞ leq v1 v2 mn) tt) in
      let some : pos 1 ≤ℤ m = certify 0 (k ∷ m ∷ []) (num 1) v1 (leq (v0 ⊗ v0) v1 hm ⊞ leq (num 1) v0 hk ⊠ leq (num 1) v0 hk ⊞ lit 2 ⊠ leq (num 1) v0 hk) tt in
      -- I, J, k, l, n, m, dot
      let e = I ∷ J ∷ k ∷ l ∷ n ∷ m ∷ dot ∷ [] in
      let i0 = leq (num 0) v0 b.start in
      let j0 = leq (num 0) v1 b.end in
      let m1 = leq (num 1) v5 some in
      let m0 = m1 ⊞ lit 1 in
      let l0 = leq (num 0) v3 hl in
      let n0 = leq (num 0) v4 hn in
      let t = v1 ⊗ v5 ⊕ v0 ⊗ (v3 ⊗ v4) in
      let s = v1 ⊗ v5 ⊕ v0 ⊗ v6 in
      let a = v1 ⊗ v2 ⊕ v0 ⊗ v3 in
      let more = i0 ⊠ leq (v3 ⊗ v4) v6 ln in
      let low : (m *ℤ A ²) ≤ℤ (T ²) =
      certify 0 e (v5 ⊗ (a ⊗ a)) (t ⊗ t)
      (sq v1 ⊠ m0 ⊠ leq (v2 ⊗ v2) v5 hm ⊞ lit 2 ⊠ i0 ⊠ j0 ⊠ m0 ⊠ l0 ⊠ leq v2 v4 kn ⊞ sq v0 ⊠ sq v3 ⊠ leq v5 (v4 ⊗ v4) mn) tt in
      let high : (T ²) ≤ℤ (S ²) =
      certify 0 e (t ⊗ t) (s ⊗ s) (more ⊠ (lit 2 ⊠ (j0 ⊠ m0 ⊞ i0 ⊠ l0 ⊠ n0) ⊞ more)) tt in
      -- p, q, x, y, I, J, C
      let e' = p ∷ q ∷ x ∷ y ∷ I ∷ J ∷ C ∷ [] in
      let X = num 10000 ⊗ (v5 ⊗ v0 ⊕ v4 ⊗ v2) in
      let Y = num 10000 ⊗ (v5 ⊗ v1 ⊕ v4 ⊗ v3) in
      let M = v0 ⊗ v0 ⊕ v1 ⊗ v1 in
      let s' = v5 ⊗ M ⊕ v4 ⊗ (v0 ⊗ v2 ⊕ v1 ⊗ v3) in
      let most : (pos 100000000 *ℤ S ²) ≤ℤ (m *ℤ C ²) =
      certify 0 e' (num 100000000 ⊗ (s' ⊗ s')) (M ⊗ (v6 ⊗ v6))
      ((sq v0 ⊞ sq v1) ⊠ leq (X ⊗ X ⊕ Y ⊗ Y) (v6 ⊗ v6) near ⊞ sq (v0 ⊗ Y ⊖ v1 ⊗ X)) tt in
      -- m, A, T, S, C
      let z = m ∷ A ∷ T ∷ S ∷ C ∷ [] in
      let c0 = leq (num 0) v4 hC in
      let d = less v4 (num 10000 ⊗ v1) hA in
      let none : pos 1 ≤ℤ pos 0 =
      certify 0 z (num 1) (num 0)
      (leq (num 100000000 ⊗ (v3 ⊗ v3)) (v0 ⊗ (v4 ⊗ v4)) most ⊞ lit 100000000 ⊠ leq (v2 ⊗ v2) (v3 ⊗ v3) high ⊞ lit 100000000 ⊠ leq (v0 ⊗ (v1 ⊗ v1)) (v2 ⊗ v2) low
      ⊞ (leq (num 1) v0 some ⊞ lit 1) ⊠ (d ⊠ (d ⊞ lit 2 ⊠ (c0 ⊞ lit 1)))
      ⊞ leq (num 1) v0 some ⊠ (lit 2 ⊠ c0 ⊞ lit 1) ⊞ lit 2 ⊠ c0) tt in
      absurd none.le

  -- what the margins are against: the radii are r and s at the ends and t between, G is the guard
  module _ (G r s t α β Q : ℤ) (hα : pos 1 ≤ℤ α) (hβ : pos 1 ≤ℤ β) (hQ : (pos 7 *ℤ (H *ℤ H)) ≤ℤ (pos 16 *ℤ Q)) (spans : Spans α β Q) where
    bend : (pos 7 *ℤ (I *ℤ J *ℤ H)) <ℤ (pos 16 *ℤ (J *ℤ α +ℤ I *ℤ β))
    bend = margins-over I J α β Q b.start b.end b.some hα hβ (pos 7) (pos 16) (certify 0 [] (num 1) (num 16) (lit 15) tt) hQ spans

    -- I, J, α, β, r, s, t, G
    pub beyond : (n : ℤ) → pos 0 ≤ℤ G → pos 0 ≤ℤ r → pos 0 ≤ℤ s → pos 0 ≤ℤ t → pos 0 ≤ℤ n
        → ((α +ℤ r +ℤ G +ℤ pos slack) ²) ≤ℤ (p ² +ℤ q ²) → (p ² +ℤ q ²) ≤ℤ (n ²) → ((β +ℤ s +ℤ G +ℤ pos slack) *ℤ n) ≤ℤ (p *ℤ x +ℤ q *ℤ y)
        → (pos 10000 *ℤ (H *ℤ t)) ≤ℤ (pos 10000 *ℤ (J *ℤ r +ℤ I *ℤ s) +ℤ radius_bound I J) → ((t +ℤ G) ²) <ℤ (f ² +ℤ g ²)
    beyond n hG hr hs ht hn hk hm hl above =
        let e = I ∷ J ∷ α ∷ β ∷ r ∷ s ∷ t ∷ G ∷ [] in
        let z = v0 ⊕ v1 in
        let ij = v0 ⊗ v1 ⊗ z in
        let RB = num 51710 ⊗ z ⊕ num 22 ⊗ ij in
        let PB = num 532000 ⊗ z ⊕ num 4078 ⊗ ij in
        let i0 = leq (num 0) v0 b.start in
        let j0 = leq (num 0) v1 b.end in
        let z0 = leq (num 0) z H0 in
        let k = v2 ⊕ v4 ⊕ v7 ⊕ num slack in
        let l = v3 ⊕ v5 ⊕ v7 ⊕ num slack in
        let C = num 10000 ⊗ (z ⊗ (v6 ⊕ v7)) ⊕ PB in
        by_contra-< ((t +ℤ G) ²) (f ² +ℤ g ²)
        (λ h.
        chord-far (α +ℤ r +ℤ G +ℤ pos slack) (β +ℤ s +ℤ G +ℤ pos slack) n (pos 10000 *ℤ (H *ℤ (t +ℤ G)) +ℤ B)
        (certify 0 e (num 1) k (leq (num 1) v2 hα ⊞ leq (num 0) v4 hr ⊞ leq (num 0) v7 hG ⊞ lit slack) tt)
        (certify 0 e (num 0) l (leq (num 1) v3 hβ ⊞ leq (num 0) v5 hs ⊞ leq (num 0) v7 hG ⊞ lit (1 + slack)) tt)
        hn
        (certify 0 e (num 0) C (lit 10000 ⊠ (z0 ⊠ (leq (num 0) v6 ht ⊞ leq (num 0) v7 hG)) ⊞ lit 532000 ⊠ z0 ⊞ lit 4078 ⊠ (i0 ⊠ j0 ⊠ z0)) tt)
        hk hm hl
        (certify-< 0 e C (num 10000 ⊗ (v1 ⊗ k ⊕ v0 ⊗ l))
        (lit 625 ⊠ less (num 7 ⊗ ij) (num 16 ⊗ (v1 ⊗ v2 ⊕ v0 ⊗ v3)) bend
        ⊞ leq (num 10000 ⊗ (z ⊗ v6)) (num 10000 ⊗ (v1 ⊗ v4 ⊕ v0 ⊗ v5) ⊕ RB) above
        ⊞ lit 275 ⊠ (i0 ⊠ j0 ⊠ z0) ⊞ lit 6290 ⊠ z0 ⊞ lit 624) tt)
        (chord-near (t +ℤ G) (certify 0 e (num 0) (v6 ⊕ v7) (leq (num 0) v6 ht ⊞ leq (num 0) v7 hG) tt) h))

    pub within : (α +ℤ G +ℤ pos slack) ≤ℤ r → (β +ℤ G +ℤ pos slack) ≤ℤ s
        → (p ² +ℤ q ²) ≤ℤ ((r -ℤ (α +ℤ G +ℤ pos slack)) ²) → (x ² +ℤ y ²) ≤ℤ ((s -ℤ (β +ℤ G +ℤ pos slack)) ²)
        → (pos 10000 *ℤ (J *ℤ r +ℤ I *ℤ s)) ≤ℤ (pos 10000 *ℤ (H *ℤ t) +ℤ radius_bound I J) → (G <ℤ t) × ((f ² +ℤ g ²) <ℤ ((t -ℤ G) ²))
    within hr hs hp hx below =
        let k = r -ℤ (α +ℤ G +ℤ pos slack) in
        let l = s -ℤ (β +ℤ G +ℤ pos slack) in
        let cu = J *ℤ p +ℤ I *ℤ x in
        let cv = J *ℤ q +ℤ I *ℤ y in
        let a = J *ℤ k +ℤ I *ℤ l in
        let w = I ∷ J ∷ p ∷ q ∷ x ∷ y ∷ k ∷ l ∷ [] in
        let k0 : pos 0 ≤ℤ k = minus_nonneg hr in
        let l0 : pos 0 ≤ℤ l = minus_nonneg hs in
        let a0 : pos 0 ≤ℤ (J *ℤ k) = certify 0 w (num 0) (v1 ⊗ v6) (leq (num 0) v1 b.end ⊠ leq (num 0) v6 k0) tt in
        let b0 : pos 0 ≤ℤ (I *ℤ l) = certify 0 w (num 0) (v0 ⊗ v7) (leq (num 0) v0 b.start ⊠ leq (num 0) v7 l0) tt in
        let point : (cu ² +ℤ cv ²) ≤ℤ (a ²) =
        triangle (J *ℤ p) (J *ℤ q) cu cv (J *ℤ k) (I *ℤ l) a0 b0
        (certify 0 w (v1 ⊗ v2 ⊗ (v1 ⊗ v2) ⊕ v1 ⊗ v3 ⊗ (v1 ⊗ v3)) (v1 ⊗ v6 ⊗ (v1 ⊗ v6)) (sq v1 ⊠ leq (v2 ⊗ v2 ⊕ v3 ⊗ v3) (v6 ⊗ v6) hp) tt)
        (certify 0 w ((v1 ⊗ v2 ⊕ v0 ⊗ v4 ⊖ v1 ⊗ v2) ⊗ (v1 ⊗ v2 ⊕ v0 ⊗ v4 ⊖ v1 ⊗ v2) ⊕ (v1 ⊗ v3 ⊕ v0 ⊗ v5 ⊖ v1 ⊗ v3) ⊗ (v1 ⊗ v3 ⊕ v0 ⊗ v5 ⊖ v1 ⊗ v3)) (v0 ⊗ v7 ⊗ (v0 ⊗ v7))
        (sq v0 ⊠ leq (v4 ⊗ v4 ⊕ v5 ⊗ v5) (v7 ⊗ v7) hx) tt) in
        let e = H ∷ f ∷ g ∷ a ∷ cu ∷ cv ∷ B ∷ [] in
        let c = num 10000 ⊗ (v0 ⊗ v1 ⊖ v4) in
        let d = num 10000 ⊗ (v0 ⊗ v2 ⊖ v5) in
        let a1 : pos 0 ≤ℤ a = +ℤ_nonneg a0 b0 in
        let a2 : pos 0 ≤ℤ (pos 10000 *ℤ a) = certify 0 e (num 0) (num 10000 ⊗ v3) (lit 10000 ⊠ leq (num 0) v3 a1) tt in
        let Z = pos 10000 *ℤ a +ℤ B in
        let Z0 : pos 0 ≤ℤ Z = +ℤ_nonneg a2 B0 in
        let far : ((pos 10000 *ℤ (H *ℤ f)) ² +ℤ (pos 10000 *ℤ (H *ℤ g)) ²) ≤ℤ (Z ²) =
        triangle (pos 10000 *ℤ cu) (pos 10000 *ℤ cv) (pos 10000 *ℤ (H *ℤ f)) (pos 10000 *ℤ (H *ℤ g)) (pos 10000 *ℤ a) B a2 B0
        (certify 0 e (num 10000 ⊗ v4 ⊗ (num 10000 ⊗ v4) ⊕ num 10000 ⊗ v5 ⊗ (num 10000 ⊗ v5)) (num 10000 ⊗ v3 ⊗ (num 10000 ⊗ v3))
        (lit 100000000 ⊠ leq (v4 ⊗ v4 ⊕ v5 ⊗ v5) (v3 ⊗ v3) point) tt)
        (certify 0 e ((num 10000 ⊗ (v0 ⊗ v1) ⊖ num 10000 ⊗ v4) ⊗ (num 10000 ⊗ (v0 ⊗ v1) ⊖ num 10000 ⊗ v4) ⊕ (num 10000 ⊗ (v0 ⊗ v2) ⊖ num 10000 ⊗ v5) ⊗ (num 10000 ⊗ (v0 ⊗ v2) ⊖ num 10000 ⊗ v5))
        (v6 ⊗ v6) (leq (c ⊗ c ⊕ d ⊗ d) (v6 ⊗ v6) b.off) tt) in
        -- I, J, α, β, r, s, t, G
        let o = I ∷ J ∷ α ∷ β ∷ r ∷ s ∷ t ∷ G ∷ [] in
        let z = v0 ⊕ v1 in
        let ij = v0 ⊗ v1 ⊗ z in
        let i0 = leq (num 0) v0 b.start in
        let j0 = leq (num 0) v1 b.end in
        let z0 = leq (num 0) z H0 in
        let less-Z : Z <ℤ (pos 10000 *ℤ (H *ℤ (t -ℤ G))) =
        certify-< 0 o (num 10000 ⊗ (v1 ⊗ (v4 ⊖ (v2 ⊕ v7 ⊕ num slack)) ⊕ v0 ⊗ (v5 ⊖ (v3 ⊕ v7 ⊕ num slack))) ⊕ (num 532000 ⊗ z ⊕ num 4078 ⊗ ij)) (num 10000 ⊗ (z ⊗ (v6 ⊖ v7)))
        (lit 625 ⊠ less (num 7 ⊗ ij) (num 16 ⊗ (v1 ⊗ v2 ⊕ v0 ⊗ v3)) bend
        ⊞ leq (num 10000 ⊗ (v1 ⊗ v4 ⊕ v0 ⊗ v5)) (num 10000 ⊗ (z ⊗ v6) ⊕ (num 51710 ⊗ z ⊕ num 22 ⊗ ij)) below
        ⊞ lit 275 ⊠ (i0 ⊠ j0 ⊠ z0) ⊞ lit 6290 ⊠ z0 ⊞ lit 624) tt in
        let m = H ∷ Z ∷ (t -ℤ G) ∷ f ∷ g ∷ [] in (
          by_contra-< G t
              (λ u. clash_ℤ less-Z
              (certify 0 (H ∷ Z ∷ t ∷ G ∷ []) (num 10000 ⊗ (v0 ⊗ (v2 ⊖ v3))) v1 (leq (num 0) v1 Z0 ⊞ lit 10000 ⊠ (leq (num 0) v0 H0 ⊠ leq v2 v3 u)) tt)),
          by_contra-< (f ² +ℤ g ²) ((t -ℤ G) ²)
              (λ u. clash_ℤ less-Z
              (le_of_squares (pos 10000 *ℤ (H *ℤ (t -ℤ G))) Z Z0
              (certify 0 m (num 10000 ⊗ (v0 ⊗ v2) ⊗ (num 10000 ⊗ (v0 ⊗ v2))) (v1 ⊗ v1)
              (leq (num 10000 ⊗ (v0 ⊗ v3) ⊗ (num 10000 ⊗ (v0 ⊗ v3)) ⊕ num 10000 ⊗ (v0 ⊗ v4) ⊗ (num 10000 ⊗ (v0 ⊗ v4))) (v1 ⊗ v1) far
              ⊞ lit 100000000 ⊠ sq v0 ⊠ leq (v2 ⊗ v2) (v3 ⊗ v3 ⊕ v4 ⊗ v4) u) tt))),
        )
