-- What is said of an occultation within its limits at a part of an hour is true, under any guard of 32 or more
-- (`inside-by`, `outside-by`), and an unsure part lies within that guard and 32 units of the true edge (`near_by`).
use Rattle.std.specs.Prelude.{◌≡◌, ℕ, ◌*◌, ◌≤◌, ℤ, pos, nat_abs, ◌+ℤ◌, ◌≤ℤ◌}
use Rattle.std.specs.Int.Signed.{le_z_yes}
use Rattle.sheet_types.specs.declared.phases.Phase.{Phase}
use Rattle.sheet_types.specs.declared.phases.Phase.TheVariants as P
use Rattle.sheet_types.specs.States.{inside, outside, unsure}
use Rattle.rounding.specs.laws.Order.{≤ℤ_trans}
use Rattle.elements.specs.Stars.{axis_of}
use Rattle.elements.specs.declared.Body.{Body}
use Rattle.elements.specs.declared.Body.TheVariants as B
use Rattle.elements.specs.StarLaws.{BodySizes, axis_sizes}
use Rattle.station.proofs.laws.PlaceLaws.{place_sizes}
use Rattle.station.specs.Place.{place_of}
use Rattle.shadow_geometry.specs.Shadow.{cone}
use Rattle.shadow.specs.laws.SecondLaws.{tangent_small}
use Rattle.requests.specs.declared.Occultation.{Occultation}
use Rattle.requests.specs.RequestLaws.{InLimits}
use Rattle.contact_times.specs.Brackets.{crossing_of, state_by}
use Rattle.contact_times.specs.laws.SecondStates.{cone_sizes}
use Rattle.contact_times.specs.laws.EdgeSigns.{LowFor, edge_sign}
use Rattle.sky_accuracy.specs.TruePlace.{TrueC}
use Rattle.sky_accuracy.specs.TrueShadow.{TrulyInside, TrulyWithinUnits}
use Rattle.sky_accuracy.specs.Truth.{sky_at}
use Rattle.sky_accuracy.proofs.laws.TrueStates.{truly-inside, truly-outside, truly-near}

-- within the ranges the penumbra's radius, and the Moon's, is not small
low : (b : Body) (z : BodySizes b) (φ : Phase) → LowFor (cone b φ) φ
low (B.Sun e) z P.Penumbra = ≤ℤ_trans (le_z_yes tt) z.low
low (B.Sun e) z P.Central = tt
low (B.Sun e) z P.Star = ≤ℤ_trans (le_z_yes tt) z.low
low (B.Star s) z P.Penumbra = ≤ℤ_trans (le_z_yes tt) z.low
low (B.Star s) z P.Central = tt
low (B.Star s) z P.Star = ≤ℤ_trans (le_z_yes tt) z.low

module _ (o : Occultation) (c : TrueC o.station.latitude) (i : InLimits o) (g : ℤ) (guard : pos 32 ≤ℤ g) (φ : Phase) (n : ℕ) (some : 1 ≤ n) (τ : ℤ)
    (t : nat_abs τ ≤ 3 * n) where
  pub inside-by : state_by n (crossing_of g o.body (place_of o.station) φ) τ ≡ inside → TrulyInside φ (sky_at o c n τ) (cone o.body φ)
  unfolding state_by
  inside-by e =
      truly-inside (sky_at o c n τ) some t (axis_sizes o.body i.body) i.station (cone o.body φ) (tangent_small o.body i.body φ) φ g guard e

  pub outside-by : state_by n (crossing_of g o.body (place_of o.station) φ) τ ≡ outside → TrulyInside φ (sky_at o c n τ) (cone o.body φ) → ⊥
  unfolding state_by
  outside-by e =
      truly-outside (sky_at o c n τ) some t (axis_sizes o.body i.body) i.station (cone o.body φ) (tangent_small o.body i.body φ) φ g guard e

  -- "It says unsure only where .. within": the guard and 32 units of the true edge
  pub near_by : state_by n (crossing_of g o.body (place_of o.station) φ) τ ≡ unsure
      → TrulyWithinUnits (g +ℤ pos 32) φ (sky_at o c n τ) (cone o.body φ)
  unfolding state_by
  near_by e =
      truly-near (sky_at o c n τ) some t (axis_sizes o.body i.body) i.station (cone o.body φ) (tangent_small o.body i.body φ) φ g
      (edge_sign n some τ t (axis_of o.body) (place_of o.station) (place_sizes o.station i.station) (cone o.body φ)
      (cone_sizes o.body i.body φ) φ (low o.body i.body φ) g (≤ℤ_trans (le_z_yes tt) guard))
      e
