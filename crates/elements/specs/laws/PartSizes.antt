-- Sizes of a polynomial's value at a part of an hour: within three hours a step is at most three times the higher
-- coefficient, and the next lower. The hour is cut into n parts; 3,600 of them are its seconds (PolynomialLaws).
use Rattle.std.specs.Prelude.{ℕ, ◌+◌, ◌*◌, ◌≤◌, ℤ, pos, nat_abs, ◌*ℤ◌, ◌≤ℤ◌}
use Rattle.std.proofs.Common.{arith}
use Rattle.rounding.specs.laws.Order.{zs, nat_abs_sum, nat_abs_product_le}
use Rattle.rounding.specs.Near.{near}
use Rattle.rounding.proofs.laws.NearLaws.{near-size}
use Rattle.elements.specs.declared.Cubic.{Cubic}
use Rattle.elements.specs.declared.Quadratic.{Quadratic}
use Rattle.elements.specs.Polynomial.{stepBy, quadratic_by, cubic_by}
use Rattle.elements.specs.Sizes.{QuadraticSizes, CubicSizes}

module _ (n : ℕ) (some : 1 ≤ n) where
  pub whole : pos 1 ≤ℤ pos n
  whole = omega (arith, zs)

  -- p per hour, for τ parts of it
  pub part-size : (τ p : ℤ) (A : ℕ) → nat_abs τ ≤ 3 * n → nat_abs p ≤ A → nat_abs (near (p *ℤ τ) (pos n)) ≤ 3 * A
  part-size τ p A ht hp = near-size (p *ℤ τ) (pos n) (3 * A) whole (omega (arith, nat_abs_product_le p τ A (3 * n) hp ht))

  pub step-size : (τ p a : ℤ) (A B : ℕ) → nat_abs τ ≤ 3 * n → nat_abs p ≤ A → nat_abs a ≤ B → nat_abs (stepBy n τ p a) ≤ 3 * A + B
  unfolding stepBy
  step-size τ p a A B ht hp ha = omega (arith, nat_abs_sum (near (p *ℤ τ) (pos n)) a, part-size τ p A ht hp)

  pub quadratic-size : (q : Quadratic) {A B C : ℕ} → QuadraticSizes A B C q → (τ : ℤ) → nat_abs τ ≤ 3 * n → nat_abs (quadratic_by n q τ) ≤ A + 3 * B + 9 * C
  unfolding quadratic_by
  quadratic-size q {A} {B} {C} h τ t =
      omega (arith, step-size τ (stepBy n τ q.c2 q.c1) q.c0 (3 * C + B) A t (step-size τ q.c2 q.c1 C B t h.c2 h.c1) h.c0)

  pub cubic-size : (c : Cubic) → CubicSizes c → (τ : ℤ) → nat_abs τ ≤ 3 * n → nat_abs (cubic_by n c τ) ≤ 501170000
  unfolding cubic_by
  cubic-size c h τ t =
      let s2 = step-size τ c.c3 c.c2 10000 100000 t h.c3 h.c2 in
      let s1 = step-size τ (stepBy n τ c.c3 c.c2) c.c1 130000 100000000 t (omega (arith, s2)) h.c1 in
      omega (arith, step-size τ (stepBy n τ (stepBy n τ c.c3 c.c2) c.c1) c.c0 100390000 200000000 t (omega (arith, s1)) h.c0)
