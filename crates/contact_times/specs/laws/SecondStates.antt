-- The state at a part of an hour does not depend on how finely the hour is cut (`state-same`), and 3,600 parts are the
-- seconds of a sheet (`second-same`); so at a whole second the state at a hundredth is the sheet's (`hundredth-same`).
use Rattle.std.specs.Prelude.{◌≡◌, ℕ, ◌*◌, ◌≤◌, ℤ, pos, ◌*ℤ◌}
use Rattle.std.proofs.Common.{◌∙◌, lit≤, arith}
use Rattle.std.proofs.Math.Path.{ap₂}
use Rattle.sheet_types.specs.declared.phases.Phase.{Phase}
use Rattle.sheet_types.specs.declared.phases.Phase.TheVariants.{Penumbra, Central, Star}
use Rattle.rounding.specs.laws.Order.{nat_abs_between}
use Rattle.elements.specs.declared.Cone.{Cone}
use Rattle.elements.specs.declared.Body.{Body}
use Rattle.elements.specs.declared.Body.TheVariants as B
use Rattle.elements.specs.Stars.{axis_of}
use Rattle.elements.specs.Sizes.{ConeSizes, wider_cone}
use Rattle.elements.specs.StarLaws.{BodySizes}
use Rattle.station.specs.declared.Place.{Place}
use Rattle.shadow_geometry.specs.Shadow.{Moment, cone, L, M, edge, state}
use Rattle.shadow.specs.Second as Second
use Rattle.contact_times.specs.declared.hundredths.Crossing.{Crossing}
use Rattle.contact_times.specs.Brackets.{crossing_of, state_by, state_at}
use Rattle.contact_times.specs.laws.WholeSeconds.{moment-same, cone-same, L-second, M-second}

pub state-same : (c n : ℕ) → 1 ≤ c → 1 ≤ n → (x : Crossing) (τ : ℤ) → state_by (c * n) x (τ *ℤ pos c) ≡ state_by n x τ
unfolding state_by
state-same c n some parts x τ =
    ap₂ (λ (m : Moment) (k : Cone). state x.guard (edge x.phase (L m k)) (M m)) (moment-same c some n parts τ x.axis x.place)
    (cone-same c some n parts τ x.cone)

module _ (guard : ℤ) (b : Body) (p : Place) (φ : Phase) (τ : ℤ) where
  pub second-same : state_by 3600 (crossing_of guard b p φ) τ ≡ Second.state_at guard b p φ τ
  unfolding state_by Second.state_at
  second-same =
      ap₂ (λ (l m : ℤ). state guard (edge φ l) m) (L-second τ (axis_of b) p (cone b φ)) (M-second τ (axis_of b) p)

  pub hundredth-same : state_at (crossing_of guard b p φ) (τ *ℤ pos 100) ≡ Second.state_at guard b p φ τ
  hundredth-same = state-same 100 3600 (lit≤ tt) (lit≤ tt) (crossing_of guard b p φ) τ ∙ second-same

-- the cone of a phase, of a body within its ranges
pub cone_sizes : (b : Body) → BodySizes b → (φ : Phase) → ConeSizes 60000000 (cone b φ)
cone_sizes (B.Sun e) z Penumbra = z.penumbra
cone_sizes (B.Sun e) z Central = wider_cone z.central (lit≤ tt)
cone_sizes (B.Sun e) z Star = z.penumbra
cone_sizes (B.Star s) z φ =
    record {
      l = record { c0 = omega (arith, nat_abs_between s.radius 27200000 z.low z.high); c1 = lit≤ tt; c2 = lit≤ tt };
      tanf = lit≤ tt;
    }
