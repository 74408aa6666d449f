-- The shadow at a part of an hour. Document 01 cuts the hour into 3,600 seconds; here it is cut into n parts, 360,000
-- for hundredths of a second. The elements take their values there by document 01's own rule, and the shadow is
-- document 01's of elements that stand still at these values. Definitions only. At a whole second it is the shadow at
-- that second (WholeSeconds).
use Rattle.std.specs.Prelude.{ℕ, ◌*◌, ℤ, pos, ◌+ℤ◌, ◌*ℤ◌}
use Rattle.elements.specs.declared.Cubic.{Cubic}
use Rattle.elements.specs.declared.Quadratic.{Quadratic}
use Rattle.elements.specs.declared.Axis.{Axis}
use Rattle.elements.specs.declared.Cone.{Cone}
use Rattle.elements.specs.Stars.{constant}
unfoldable pub use Rattle.elements.specs.Polynomial.{stepBy, quadratic_by, cubic_by}
use Rattle.station.specs.declared.Place.{Place}
use Rattle.shadow_geometry.specs.Shadow.{Moment, moment_of, ◌²}
use Rattle.shadow_geometry.specs.Exact.{◌³}

-- hundredths of a second
abbrev pub hundredths : ℕ
hundredths = 360_000

-- x or y with no coefficient but the first
abbrev pub constant_cubic : ℤ → Cubic
constant_cubic c = record { c0 = c; c1 = pos 0; c2 = pos 0; c3 = pos 0 }

-- the axis and a cone as they are at τ, standing still
abbrev pub axis_by : (n : ℕ) → Axis → (τ : ℤ) → Axis
axis_by n a τ =
    record {
      x = constant_cubic (cubic_by n a.x τ);
      y = constant_cubic (cubic_by n a.y τ);
      d = constant (quadratic_by n a.d τ);
      mu = constant (quadratic_by n a.mu τ);
    }

abbrev pub cone_by : (n : ℕ) → Cone → (τ : ℤ) → Cone
cone_by n k τ = record { l = constant (quadratic_by n k.l τ); tanf = k.tanf }

-- what the shadow at τ is made of: geometry's Shadow has its letters
abbrev pub moment_by : (n : ℕ) → Axis → Place → (τ : ℤ) → Moment
moment_by n a p τ = moment_of (axis_by n a τ) p (pos 0)

-- ---- the same without rounding: values over n³

abbrev pub cube : ℕ → ℕ
cube n = n * n * n

unfoldable pub exactQuadratic : (n : ℕ) → Quadratic → (τ : ℤ) → ℤ
exactQuadratic n q τ = q.c0 *ℤ pos n ³ +ℤ q.c1 *ℤ τ *ℤ pos n ² +ℤ q.c2 *ℤ τ ² *ℤ pos n

unfoldable pub exactCubic : (n : ℕ) → Cubic → (τ : ℤ) → ℤ
exactCubic n c τ = c.c0 *ℤ pos n ³ +ℤ c.c1 *ℤ τ *ℤ pos n ² +ℤ c.c2 *ℤ τ ² *ℤ pos n +ℤ c.c3 *ℤ τ ³
