-- Three facts of whole numbers by which two computed seconds decide all between.
--   margins       two margins α and β at the ends of a chord leave something of both between them everywhere, under a bend of q
--   half_plane    a point that is more than ρ out in a direction is more than ρ away
--   root_free     a margin inside a circle, without a root: (L² - M) / 2L
-- and
--   cauchy        p x + q y ≤ a b, where (p, q) is at most a long and (x, y) at most b
use Rattle.std.specs.Prelude.{[], ◌∷◌, ℤ, pos, ◌+ℤ◌, ◌-ℤ◌, ◌*ℤ◌, ◌≤ℤ◌, ◌<ℤ◌}
use Rattle.std.proofs.Common.{⊎_elim}
use Rattle.std.specs.Int.Signed.{clash_ℤ}
use Rattle.rounding.specs.laws.Order.{≤ℤ_total, by_contra}
use Rattle.rounding.specs.laws.Ring.{num, ◌⊕◌, ◌⊖◌, ◌⊗◌, v0, v1, v2, v3, v4, v5, v6}
use Rattle.rounding.specs.laws.Cert.{leq, less, lit, sq, ◌⊞◌, ◌⊠◌, certify, certify-<}
use Rattle.shadow_geometry.specs.Shadow.{◌²}
use Rattle.shadow_geometry.specs.laws.Triangle.{le_of_squares}
use Rattle.chord_bounds.specs.Margins.{Spans}

pub by_contra-< : (a b : ℤ) → (b ≤ℤ a → ⊥) → a <ℤ b
by_contra-< a b f = ⊎_elim (λ (h : b ≤ℤ a). absurd (f h)) (λ h. h) (≤ℤ_total b a)

-- a²b² - (p x + q y)² = (a² - p² - q²) b² + (p² + q²) (b² - x² - y²) + (p y - q x)²
pub cauchy : (p q x y a b : ℤ) → pos 0 ≤ℤ a → pos 0 ≤ℤ b → (p ² +ℤ q ²) ≤ℤ (a ²) → (x ² +ℤ y ²) ≤ℤ (b ²) → (p *ℤ x +ℤ q *ℤ y) ≤ℤ (a *ℤ b)
cauchy p q x y a b ha hb h k =
    let e = p ∷ q ∷ x ∷ y ∷ a ∷ b ∷ [] in
    let s = v0 ⊗ v2 ⊕ v1 ⊗ v3 in
    le_of_squares (p *ℤ x +ℤ q *ℤ y) (a *ℤ b)
    (certify 0 e (num 0) (v4 ⊗ v5) (leq (num 0) v4 ha ⊠ leq (num 0) v5 hb) tt)
    (certify 0 e (s ⊗ s) (v4 ⊗ v5 ⊗ (v4 ⊗ v5))
    (leq (v0 ⊗ v0 ⊕ v1 ⊗ v1) (v4 ⊗ v4) h ⊠ sq v5 ⊞ (sq v0 ⊞ sq v1) ⊠ leq (v2 ⊗ v2 ⊕ v3 ⊗ v3) (v5 ⊗ v5) k ⊞ sq (v0 ⊗ v3 ⊖ v1 ⊗ v2)) tt)

-- "E, half-plane. n ≥ |c| > 0, c·w > nρ ⇒ |w| > ρ"
pub half_plane : (p q x y n ρ : ℤ) → pos 0 ≤ℤ n → pos 0 ≤ℤ ρ → (p ² +ℤ q ²) ≤ℤ (n ²) → (n *ℤ ρ) <ℤ (p *ℤ x +ℤ q *ℤ y) → (ρ ²) <ℤ (x ² +ℤ y ²)
half_plane p q x y n ρ hn hρ h k = by_contra-< (ρ ²) (x ² +ℤ y ²) (λ g. clash_ℤ k (cauchy p q x y n ρ hn hρ h g))

-- "F, no root. 0 ≤ M < L² ⇒ (L²-M)/(2L) ≤ L-√M": a margin μ with 2 L μ ≤ L² - M
pub root_free : (L M μ : ℤ) → pos 1 ≤ℤ L → pos 0 ≤ℤ M → (pos 2 *ℤ (L *ℤ μ)) ≤ℤ (L ² -ℤ M) → (μ ≤ℤ L) × (M ≤ℤ ((L -ℤ μ) ²))
root_free L M μ hL hM h =
    let e = L ∷ M ∷ μ ∷ [] in
    let fact = leq (num 2 ⊗ (v0 ⊗ v2)) (v0 ⊗ v0 ⊖ v1) h in (
      by_contra μ L
          (λ l. clash_ℤ
          (certify-< 0 e (num 0) (v0 ⊗ (v2 ⊖ v0)) (leq (num 1) v0 hL ⊠ less v0 v2 l ⊞ leq (num 1) v0 hL ⊞ less v0 v2 l) tt)
          (certify 1 e (v0 ⊗ (v2 ⊖ v0)) (num 0) (fact ⊞ leq (num 0) v1 hM ⊞ sq v0) tt)),
      certify 0 e v1 ((v0 ⊖ v2) ⊗ (v0 ⊖ v2)) (fact ⊞ sq v2) tt,
    )

-- ---- margins

-- 2 (I² + J²) = (I - J)² + (I + J)²
squares_some : (I J : ℤ) → pos 1 ≤ℤ (I +ℤ J) → pos 1 ≤ℤ (I ² +ℤ J ²)
squares_some I J some =
    by_contra (pos 1) (I ² +ℤ J ²)
    (λ g.
    let e = I ∷ J ∷ [] in
    let s1 = leq (num 1) (v0 ⊕ v1) some in
    let none : pos 1 ≤ℤ pos 0 =
    certify 0 e (num 1) (num 0) (lit 2 ⊠ less (v0 ⊗ v0 ⊕ v1 ⊗ v1) (num 1) g ⊞ sq (v0 ⊖ v1) ⊞ s1 ⊠ s1 ⊞ lit 2 ⊠ s1) tt in
    absurd none.le)

module _ (I J α β q : ℤ) (start : pos 0 ≤ℤ I) (end : pos 0 ≤ℤ J) (some : pos 1 ≤ℤ (I +ℤ J)) (hα : pos 1 ≤ℤ α) (hβ : pos 1 ≤ℤ β) where
  abbrev chord : ℤ
  chord = (I +ℤ J) *ℤ (J *ℤ α +ℤ I *ℤ β) -ℤ q *ℤ (I *ℤ J)

  -- J²α + I²β + I J (α + β - q)
  wide : q ≤ℤ (α +ℤ β) → pos 0 <ℤ chord
  wide h =
      let e = I ∷ J ∷ α ∷ β ∷ q ∷ [] in
      certify-< 0 e (num 0) ((v0 ⊕ v1) ⊗ (v1 ⊗ v2 ⊕ v0 ⊗ v3) ⊖ v4 ⊗ (v0 ⊗ v1))
      (sq v1 ⊠ leq (num 1) v2 hα ⊞ sq v0 ⊠ leq (num 1) v3 hβ ⊞ leq (num 0) v0 start ⊠ leq (num 0) v1 end ⊠ leq v4 (v2 ⊕ v3) h
      ⊞ leq (num 1) (v0 ⊗ v0 ⊕ v1 ⊗ v1) (squares_some I J some)) tt

  narrow : ((q -ℤ α -ℤ β) ²) <ℤ (pos 4 *ℤ (α *ℤ β)) → pos 0 <ℤ chord
  narrow h = by_contra-< (pos 0) chord refute
    where
      refute : chord ≤ℤ pos 0 → ⊥
      refute g =
          let e = I ∷ J ∷ α ∷ β ∷ q ∷ [] in
          let c = (v0 ⊕ v1) ⊗ (v1 ⊗ v2 ⊕ v0 ⊗ v3) ⊖ v4 ⊗ (v0 ⊗ v1) in
          let r = v4 ⊖ v2 ⊖ v3 in
          let a1 = leq (num 1) v2 hα in
          let b1 = leq (num 1) v3 hβ in
          let d = less (r ⊗ r) (num 4 ⊗ (v2 ⊗ v3)) h in
          -- 4 (α + β) chord = (2 α J - r I)² + (2 β I - r J)² + (4 α β - r²) (I² + J²), and I² + J² is at least 1
          clash_ℤ
          (certify-< 0 e (num 0) (num 4 ⊗ (v2 ⊕ v3) ⊗ c)
          (sq (num 2 ⊗ v2 ⊗ v1 ⊖ r ⊗ v0) ⊞ sq (num 2 ⊗ v3 ⊗ v0 ⊖ r ⊗ v1) ⊞ d ⊠ (sq v0 ⊞ sq v1)
          ⊞ leq (num 1) (v0 ⊗ v0 ⊕ v1 ⊗ v1) (squares_some I J some)) tt)
          (certify 0 e (num 4 ⊗ (v2 ⊕ v3) ⊗ c) (num 0) (lit 4 ⊠ (a1 ⊞ b1 ⊞ lit 2) ⊠ leq c (num 0) g) tt)

  pub margins : Spans α β q → (q *ℤ (I *ℤ J)) <ℤ ((I +ℤ J) *ℤ (J *ℤ α +ℤ I *ℤ β))
  margins h =
      let x = q *ℤ (I *ℤ J) in
      let y = (I +ℤ J) *ℤ (J *ℤ α +ℤ I *ℤ β) in
      certify-< 0 (x ∷ y ∷ []) v0 v1 (less (num 0) (v1 ⊖ v0) (⊎_elim wide narrow h)) tt

  -- "D, margins. q ≥ 5h²/16 .. ⇒ 16(jα+iβ) > 5ijh for all i+j=h", for any c over d in place of 5 over 16
  pub margins-over : (c d : ℤ) → pos 1 ≤ℤ d → (c *ℤ ((I +ℤ J) *ℤ (I +ℤ J))) ≤ℤ (d *ℤ q) → Spans α β q → (c *ℤ (I *ℤ J *ℤ (I +ℤ J))) <ℤ (d *ℤ (J *ℤ α +ℤ I *ℤ β))
  margins-over c d hd hq h =
      let e = I ∷ J ∷ α ∷ β ∷ q ∷ c ∷ d ∷ [] in
      let s = v0 ⊕ v1 in
      let K = v5 ⊗ (v0 ⊗ v1 ⊗ s) in
      let N = v6 ⊗ (v1 ⊗ v2 ⊕ v0 ⊗ v3) in
      let s1 = leq (num 1) s some in
      by_contra-< (c *ℤ (I *ℤ J *ℤ (I +ℤ J))) (d *ℤ (J *ℤ α +ℤ I *ℤ β))
      (λ g.
      let m = less (v4 ⊗ (v0 ⊗ v1)) (s ⊗ (v1 ⊗ v2 ⊕ v0 ⊗ v3)) (margins h) in
      clash_ℤ
      (certify-< 0 e (num 0) (s ⊗ (N ⊖ K))
      (leq (num 1) v6 hd ⊠ m ⊞ leq (num 1) v6 hd ⊞ m ⊞ leq (num 0) v0 start ⊠ leq (num 0) v1 end ⊠ leq (v5 ⊗ (s ⊗ s)) (v6 ⊗ v4) hq) tt)
      (certify 0 e (s ⊗ (N ⊖ K)) (num 0) ((s1 ⊞ lit 1) ⊠ leq N K g) tt))
