-- The seconds are 3,600 parts of an hour (`quadratic-second`, `cubic-second`), and sizes of a polynomial's value at one:
-- within three hours a step is at most three times the higher coefficient, and the next lower.
use Rattle.std.specs.Prelude.{◌≡◌, ℕ, ◌+◌, ◌*◌, ◌≤◌, ℤ, nat_abs, ◌*ℤ◌}
use Rattle.std.proofs.Common.{refl, lit≤}
use Rattle.rounding.specs.Units.{hour}
use Rattle.rounding.specs.Near.{near}
use Rattle.elements.specs.declared.Cubic.{Cubic}
use Rattle.elements.specs.declared.Quadratic.{Quadratic}
use Rattle.elements.specs.Polynomial.{step, quadratic_at, cubic_at, stepBy, quadratic_by, cubic_by}
use Rattle.elements.specs.Sizes.{QuadraticSizes, CubicSizes}
use Rattle.elements.specs.laws.PartSizes as part

pub quadratic-second : (τ : ℤ) (q : Quadratic) → quadratic_by 3600 q τ ≡ quadratic_at q τ
unfolding quadratic_by quadratic_at stepBy step
quadratic-second τ q = refl

pub cubic-second : (τ : ℤ) (c : Cubic) → cubic_by 3600 c τ ≡ cubic_at c τ
unfolding cubic_by cubic_at stepBy step
cubic-second τ c = refl

-- p per hour, for τ seconds
pub part-size : (τ p : ℤ) (A : ℕ) → nat_abs τ ≤ 10800 → nat_abs p ≤ A → nat_abs (near (p *ℤ τ) hour) ≤ 3 * A
part-size = part.part-size 3600 (lit≤ tt)

pub step-size : (τ p a : ℤ) (A B : ℕ) → nat_abs τ ≤ 10800 → nat_abs p ≤ A → nat_abs a ≤ B → nat_abs (step τ p a) ≤ 3 * A + B
unfolding step stepBy
step-size = part.step-size 3600 (lit≤ tt)

pub quadratic-size : (q : Quadratic) {A B C : ℕ} → QuadraticSizes A B C q → (τ : ℤ) → nat_abs τ ≤ 10800 → nat_abs (quadratic_at q τ) ≤ A + 3 * B + 9 * C
unfolding quadratic_by quadratic_at stepBy step
quadratic-size q h τ t = part.quadratic-size 3600 (lit≤ tt) q h τ t

pub cubic-size : (c : Cubic) → CubicSizes c → (τ : ℤ) → nat_abs τ ≤ 10800 → nat_abs (cubic_at c τ) ≤ 501170000
unfolding cubic_by cubic_at stepBy step
cubic-size = part.cubic-size 3600 (lit≤ tt)
