-- Polynomials in one unknown, as the lists of their coefficients, the constant first.
--   worth-moved     the unknown counted from another zero
--   worth-turned    the unknown with the other sign
--   worth-added, worth-product    sums and products of two
--   worth-size      how large the value is at most, for an unknown of at most a given size
use Rattle.std.specs.Prelude.{◌≡◌, refl, List, [], ◌∷◌, ℕ, suc, ◌+◌, ◌*◌, ◌^◌, ◌≤◌, ℤ, pos, neg_ℤ, nat_abs, ◌+ℤ◌, ◌*ℤ◌}
use Rattle.std.proofs.Common.{◌∙◌, ap, arith, pow-suc}
use Rattle.rounding.specs.laws.Order.{nat_abs_sum, nat_abs_product_le}
use Rattle.rounding.specs.laws.Ring.{◌⊕◌, ◌⊗◌, opp, num, ring, v0, v1, v2, v3, v4, v5}

unfoldable pub worth : List ℤ → ℤ → ℤ
worth [] x = pos 0
worth (p ∷ ps) x = p +ℤ x *ℤ worth ps x

-- ---- another zero

-- p + (c + x)·q as a polynomial in x, for a polynomial q in x
unfoldable pub carry : ℤ → ℤ → List ℤ → List ℤ
carry c p [] = p ∷ []
carry c p (q ∷ qs) = (p +ℤ c *ℤ q) ∷ carry c q qs

-- the polynomial in x that ps is at c + x
unfoldable pub moved : ℤ → List ℤ → List ℤ
unfolding carry
moved c [] = []
moved c (p ∷ ps) = carry c p (moved c ps)

worth-carry : (c p x : ℤ) (qs : List ℤ) → worth (carry c p qs) x ≡ p +ℤ (c +ℤ x) *ℤ worth qs x
unfolding worth carry
worth-carry c p x [] = ring (c ∷ p ∷ x ∷ []) (v1 ⊕ v2 ⊗ num 0) (v1 ⊕ (v0 ⊕ v2) ⊗ num 0) tt
worth-carry c p x (q ∷ qs) =
    ap (λ (y : ℤ). (p +ℤ c *ℤ q) +ℤ x *ℤ y) (worth-carry c q x qs)
    ∙ ring (c ∷ p ∷ x ∷ q ∷ worth qs x ∷ []) ((v1 ⊕ v0 ⊗ v3) ⊕ v2 ⊗ (v3 ⊕ (v0 ⊕ v2) ⊗ v4)) (v1 ⊕ (v0 ⊕ v2) ⊗ (v3 ⊕ v2 ⊗ v4)) tt

pub worth-moved : (c x : ℤ) (ps : List ℤ) → worth (moved c ps) x ≡ worth ps (c +ℤ x)
unfolding worth moved
worth-moved c x [] = refl
worth-moved c x (p ∷ ps) = worth-carry c p x (moved c ps) ∙ ap (λ (y : ℤ). p +ℤ (c +ℤ x) *ℤ y) (worth-moved c x ps)

-- ---- the other sign

unfoldable mutual
  pub turned : List ℤ → List ℤ
  turned [] = []
  turned (p ∷ ps) = p ∷ turnedNext ps

  pub turnedNext : List ℤ → List ℤ
  turnedNext [] = []
  turnedNext (p ∷ ps) = neg_ℤ p ∷ turned ps

mutual
  unfolding worth turned

  pub worth-turned : (x : ℤ) (ps : List ℤ) → worth (turned ps) x ≡ worth ps (neg_ℤ x)
  worth-turned x [] = refl
  worth-turned x (p ∷ ps) =
      ap (λ (y : ℤ). p +ℤ x *ℤ y) (worth-turnedNext x ps)
      ∙ ring (p ∷ x ∷ worth ps (neg_ℤ x) ∷ []) (v0 ⊕ v1 ⊗ opp v2) (v0 ⊕ opp v1 ⊗ v2) tt

  worth-turnedNext : (x : ℤ) (ps : List ℤ) → worth (turnedNext ps) x ≡ neg_ℤ (worth ps (neg_ℤ x))
  worth-turnedNext x [] = refl
  worth-turnedNext x (p ∷ ps) =
      ap (λ (y : ℤ). neg_ℤ p +ℤ x *ℤ y) (worth-turned x ps)
      ∙ ring (p ∷ x ∷ worth ps (neg_ℤ x) ∷ []) (opp v0 ⊕ v1 ⊗ v2) (opp (v0 ⊕ opp v1 ⊗ v2)) tt

-- ---- sums and products

-- c·qs + ps
unfoldable pub added : ℤ → List ℤ → List ℤ → List ℤ
added c [] ps = ps
added c (q ∷ qs) [] = (c *ℤ q) ∷ added c qs []
added c (q ∷ qs) (p ∷ ps) = (c *ℤ q +ℤ p) ∷ added c qs ps

unfoldable pub product : List ℤ → List ℤ → List ℤ
unfolding added
product [] qs = []
product (p ∷ ps) qs = added p qs (pos 0 ∷ product ps qs)

pub worth-added : (c x : ℤ) (qs ps : List ℤ) → worth (added c qs ps) x ≡ c *ℤ worth qs x +ℤ worth ps x
unfolding worth added
worth-added c x [] ps = ring (c ∷ worth ps x ∷ []) v1 (v0 ⊗ num 0 ⊕ v1) tt
worth-added c x (q ∷ qs) [] =
    ap (λ (y : ℤ). c *ℤ q +ℤ x *ℤ y) (worth-added c x qs [])
    ∙ ring (c ∷ q ∷ x ∷ worth qs x ∷ []) (v0 ⊗ v1 ⊕ v2 ⊗ (v0 ⊗ v3 ⊕ num 0)) (v0 ⊗ (v1 ⊕ v2 ⊗ v3) ⊕ num 0) tt
worth-added c x (q ∷ qs) (p ∷ ps) =
    ap (λ (y : ℤ). (c *ℤ q +ℤ p) +ℤ x *ℤ y) (worth-added c x qs ps)
    ∙ ring (c ∷ q ∷ p ∷ x ∷ worth qs x ∷ worth ps x ∷ []) ((v0 ⊗ v1 ⊕ v2) ⊕ v3 ⊗ (v0 ⊗ v4 ⊕ v5)) (v0 ⊗ (v1 ⊕ v3 ⊗ v4) ⊕ (v2 ⊕ v3 ⊗ v5)) tt

pub worth-product : (x : ℤ) (ps qs : List ℤ) → worth (product ps qs) x ≡ worth ps x *ℤ worth qs x
unfolding worth product
worth-product x [] qs = ring (worth qs x ∷ []) (num 0) (num 0 ⊗ v0) tt
worth-product x (p ∷ ps) qs =
    worth-added p x qs (pos 0 ∷ product ps qs)
    ∙ ap (λ (y : ℤ). p *ℤ worth qs x +ℤ (pos 0 +ℤ x *ℤ y)) (worth-product x ps qs)
    ∙ ring (p ∷ x ∷ worth ps x ∷ worth qs x ∷ []) (v0 ⊗ v3 ⊕ (num 0 ⊕ v1 ⊗ (v2 ⊗ v3))) ((v0 ⊕ v1 ⊗ v2) ⊗ v3) tt

-- ---- sizes

unfoldable pub size : ℕ → List ℤ → ℕ
size b [] = 0
size b (p ∷ ps) = nat_abs p + b * size b ps

pub worth-size : (b : ℕ) (x : ℤ) → nat_abs x ≤ b → (ps : List ℤ) → nat_abs (worth ps x) ≤ size b ps
unfolding worth size
worth-size b x h [] = omega arith
worth-size b x h (p ∷ ps) =
    omega (arith, nat_abs_sum p (x *ℤ worth ps x), nat_abs_product_le x (worth ps x) b (size b ps) h (worth-size b x h ps))

-- ---- as a sum of powers

unfoldable pub spread : ℕ → List ℤ → ℕ → ℤ
spread a [] i = pos 0
spread a (p ∷ ps) i = p *ℤ pos (a ^ i) +ℤ spread a ps (suc i)

pub spread-worth : (a : ℕ) (ps : List ℤ) (i : ℕ) → spread a ps i ≡ pos (a ^ i) *ℤ worth ps (pos a)
unfolding worth spread
spread-worth a [] i = ring (pos (a ^ i) ∷ []) (num 0) (v0 ⊗ num 0) tt
spread-worth a (p ∷ ps) i =
    ap (λ (y : ℤ). p *ℤ pos (a ^ i) +ℤ y) (spread-worth a ps (suc i))
    ∙ ap (λ (m : ℕ). p *ℤ pos (a ^ i) +ℤ pos m *ℤ worth ps (pos a)) (pow-suc a i)
    ∙ ring (p ∷ pos (a ^ i) ∷ pos a ∷ worth ps (pos a) ∷ []) (v0 ⊗ v1 ⊕ v1 ⊗ v2 ⊗ v3) (v1 ⊗ (v0 ⊕ v2 ⊗ v3)) tt
