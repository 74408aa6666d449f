-- How far the shadow at a second is from the exact one: of every second of every occultation within its limits
-- (`errors_proved`).
use Rattle.std.specs.Prelude.{◌*◌, ◌≤◌, ℤ, pos, nat_abs, ◌-ℤ◌, ◌*ℤ◌}
use Rattle.sheet_types.specs.declared.phases.Phase.{Phase}
use Rattle.station.specs.Place.{place_of}
use Rattle.shadow_geometry.specs.Shadow as Shadow
use Rattle.shadow_geometry.specs.Shadow.{cone}
use Rattle.shadow_geometry.specs.Exact.{D, exact_u, exact_v, exact_L}
use Rattle.shadow_geometry.proofs.laws.Errors.{u_error, v_error, L-error}
use Rattle.shadow_geometry.proofs.Thirteen.{Thirteen}
use Rattle.shadow.specs.laws.SecondLaws.{tangent_small, distance-known}
use Rattle.requests.specs.declared.Occultation.{Occultation}
use Rattle.requests.specs.Windows.{InWindow}
use Rattle.requests.specs.WindowLaws.{in-window-size}
use Rattle.requests.specs.RequestLaws.{InLimits}
use Rattle.seconds.specs.Seconds.{moment_at}
use Rattle.seconds.proofs.laws.SecondLaws.{placed}

-- "Errors to be proved: u within 7 units, v 7½, L1 and L2 within 3; and the distance less L, taken as a whole, within
-- 13": each over the denominator D of the exact values; the last as document 01 says it, for every whole t (geometry,
-- Thirteen)
pub record Errors (o : Occultation) (τ : ℤ) : Type 0 where
  pub u : nat_abs (pos D *ℤ Shadow.u (moment_at o τ) -ℤ exact_u (moment_at o τ)) ≤ 7 * D
  pub v : 2 * nat_abs (pos D *ℤ Shadow.v (moment_at o τ) -ℤ exact_v (moment_at o τ)) ≤ 15 * D
  pub L : (φ : Phase) → nat_abs (pos D *ℤ Shadow.L (moment_at o τ) (cone o.body φ) -ℤ exact_L (moment_at o τ) (cone o.body φ)) ≤ 3 * D
  pub distance : (φ : Phase) → Thirteen φ (moment_at o τ) (cone o.body φ)

pub errors_proved : (o : Occultation) → InLimits o → (τ : ℤ) → InWindow o.window τ → Errors o τ
errors_proved o i τ w =
    let h = in-window-size o.window i.window τ w in
    record {
      u = u_error (moment_at o τ) h;
      v = v_error (moment_at o τ) h;
      L = λ φ. L-error (moment_at o τ) h (cone o.body φ) (tangent_small o.body i.body φ);
      distance = distance-known o.body i.body (place_of o.station) (placed o i) τ h;
    }
