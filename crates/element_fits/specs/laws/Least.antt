-- The exact polynomials have the least sum of squares: less than, or as much as, any other with fractions as coefficients, q over k.
--   least-cubic      k² Σ (252 v - e)² ≤ 252² Σ (k v - q)²
--   least-quadratic  k² Σ (84 v - e)² ≤ 84² Σ (k v - q)²
-- since the difference is Σ (k e - 252 q)².
use mathlib.Core.List.{[], ◌∷◌}
use Rattle.std.proofs.Math.IntN.{ℤ, pos}
use Rattle.std.specs.Prelude.{negsuc, ◌*ℤ◌, ◌≤ℤ◌}
use Rattle.rounding.specs.laws.Ring.{Expr, var, con, num, ◌⊕◌, ◌⊖◌, ◌⊗◌}
use Rattle.rounding.specs.laws.Cert.{Nonneg, sq, ◌⊞◌, certify}
use Rattle.elements.specs.declared.Cubic.{Cubic}
use Rattle.elements.specs.declared.Quadratic.{Quadratic}
use Rattle.element_fits.specs.declared.least_squares.Hourly.{Hourly}
use Rattle.element_fits.specs.LeastSquares.{sum, first, second, third}
use Rattle.element_fits.specs.Exact.{cubic_at_hour, quadratic_at_hour, exactCubic, exactQuadratic, squares}

-- v0 .. v6 are unknowns 5 .. 11, k is 0, and the coefficients of q are 1 .. 4

abbrev A : Expr
A = var 5

abbrev B : Expr
B = var 6

abbrev C : Expr
C = var 7

abbrev D : Expr
D = var 8

abbrev E : Expr
E = var 9

abbrev F : Expr
F = var 10

abbrev G : Expr
G = var 11

abbrev sum_e : Expr
sum_e = A ⊕ B ⊕ C ⊕ D ⊕ E ⊕ F ⊕ G

abbrev first_e : Expr
first_e = num 3 ⊗ (G ⊖ A) ⊕ num 2 ⊗ (F ⊖ B) ⊕ (E ⊖ C)

abbrev second_e : Expr
second_e = num 5 ⊗ (A ⊕ G) ⊖ num 3 ⊗ (C ⊕ E) ⊖ num 4 ⊗ D

abbrev third_e : Expr
third_e = (G ⊖ A) ⊖ (F ⊖ B) ⊖ (E ⊖ C)

-- a polynomial at an hour
abbrev cubic_e : (c0 c1 c2 c3 : Expr) → ℤ → Expr
cubic_e c0 c1 c2 c3 t = ((c3 ⊗ con t ⊕ c2) ⊗ con t ⊕ c1) ⊗ con t ⊕ c0

abbrev quadratic_e : (c0 c1 c2 : Expr) → ℤ → Expr
quadratic_e c0 c1 c2 t = (c2 ⊗ con t ⊕ c1) ⊗ con t ⊕ c0

abbrev square_e : Expr → Expr
square_e e = e ⊗ e

abbrev squares_e : Expr → (ℤ → Expr) → Expr
squares_e k f =
    square_e (k ⊗ A ⊖ f (negsuc 2)) ⊕ square_e (k ⊗ B ⊖ f (negsuc 1)) ⊕ square_e (k ⊗ C ⊖ f (negsuc 0)) ⊕ square_e (k ⊗ D ⊖ f (pos 0))
    ⊕ square_e (k ⊗ E ⊖ f (pos 1)) ⊕ square_e (k ⊗ F ⊖ f (pos 2)) ⊕ square_e (k ⊗ G ⊖ f (pos 3))

module _ (w : Hourly) (k : ℤ) where
  pub least-cubic : (q : Cubic)
      → (k *ℤ k *ℤ squares (pos 252) w (cubic_at_hour (exactCubic w))) ≤ℤ (pos 63504 *ℤ squares k w (cubic_at_hour q))
  unfolding sum first second third exactCubic
  least-cubic q =
      let env = k ∷ q.c0 ∷ q.c1 ∷ q.c2 ∷ q.c3 ∷ w.v0 ∷ w.v1 ∷ w.v2 ∷ w.v3 ∷ w.v4 ∷ w.v5 ∷ w.v6 ∷ [] in
      let e : ℤ → Expr = cubic_e (num 36 ⊗ sum_e ⊖ num 12 ⊗ second_e) (num 9 ⊗ first_e ⊖ num 49 ⊗ third_e) (num 3 ⊗ second_e) (num 7 ⊗ third_e) in
      let p : ℤ → Expr = cubic_e (var 1) (var 2) (var 3) (var 4) in
      let d : (t : ℤ) → Nonneg env (square_e (var 0 ⊗ e t ⊖ num 252 ⊗ p t)) = λ t. sq (var 0 ⊗ e t ⊖ num 252 ⊗ p t) in
      certify 0 env (var 0 ⊗ var 0 ⊗ squares_e (num 252) e) (num 63504 ⊗ squares_e (var 0) p)
      (d (negsuc 2) ⊞ d (negsuc 1) ⊞ d (negsuc 0) ⊞ d (pos 0) ⊞ d (pos 1) ⊞ d (pos 2) ⊞ d (pos 3)) tt

  pub least-quadratic : (q : Quadratic)
      → (k *ℤ k *ℤ squares (pos 84) w (quadratic_at_hour (exactQuadratic w))) ≤ℤ (pos 7056 *ℤ squares k w (quadratic_at_hour q))
  unfolding sum first second third exactQuadratic
  least-quadratic q =
      let env = k ∷ q.c0 ∷ q.c1 ∷ q.c2 ∷ pos 0 ∷ w.v0 ∷ w.v1 ∷ w.v2 ∷ w.v3 ∷ w.v4 ∷ w.v5 ∷ w.v6 ∷ [] in
      let e : ℤ → Expr = quadratic_e (num 12 ⊗ sum_e ⊖ num 4 ⊗ second_e) (num 3 ⊗ first_e) second_e in
      let p : ℤ → Expr = quadratic_e (var 1) (var 2) (var 3) in
      let d : (t : ℤ) → Nonneg env (square_e (var 0 ⊗ e t ⊖ num 84 ⊗ p t)) = λ t. sq (var 0 ⊗ e t ⊖ num 84 ⊗ p t) in
      certify 0 env (var 0 ⊗ var 0 ⊗ squares_e (num 84) e) (num 7056 ⊗ squares_e (var 0) p)
      (d (negsuc 2) ⊞ d (negsuc 1) ⊞ d (negsuc 0) ⊞ d (pos 0) ⊞ d (pos 1) ⊞ d (pos 2) ⊞ d (pos 3)) tt
