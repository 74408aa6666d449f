-- Values at a second of what is given for each hour, and at any part of an hour.
use Rattle.std.specs.Prelude.{ℕ, ℤ, pos, ◌+ℤ◌, ◌*ℤ◌}
use Rattle.rounding.specs.Units.{hour}
use Rattle.rounding.specs.Near.{near}
use Rattle.elements.specs.declared.Cubic.{Cubic}
use Rattle.elements.specs.declared.Quadratic.{Quadratic}

-- "Coefficients are per hour. A value at τ starts from the highest coefficient and repeats: multiply by τ, near over
-- 3600, add the next lower."
unfoldable pub step : (τ p lower : ℤ) → ℤ
step τ p lower = near (p *ℤ τ) hour +ℤ lower

-- of three coefficients
unfoldable pub quadratic_at : Quadratic → (τ : ℤ) → ℤ
quadratic_at q τ = step τ (step τ q.c2 q.c1) q.c0

-- of four
unfoldable pub cubic_at : Cubic → (τ : ℤ) → ℤ
cubic_at c τ = step τ (step τ (step τ c.c3 c.c2) c.c1) c.c0

-- ---- at a part of an hour
-- "Coefficients are per hour. A value at τ starts from the highest coefficient and repeats: multiply by τ, near over
-- 3600, add the next lower.", with n for 3600 and τ in n-ths of an hour
unfoldable pub stepBy : (n : ℕ) (τ p lower : ℤ) → ℤ
stepBy n τ p lower = near (p *ℤ τ) (pos n) +ℤ lower

unfoldable pub quadratic_by : (n : ℕ) → Quadratic → (τ : ℤ) → ℤ
quadratic_by n q τ = stepBy n τ (stepBy n τ q.c2 q.c1) q.c0

unfoldable pub cubic_by : (n : ℕ) → Cubic → (τ : ℤ) → ℤ
cubic_by n c τ = stepBy n τ (stepBy n τ (stepBy n τ c.c3 c.c2) c.c1) c.c0
