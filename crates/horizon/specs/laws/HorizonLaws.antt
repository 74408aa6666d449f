-- What callers use of the horizon at a second.
--   altitude-within   the altitude lies in -900..900
--   altitude-up, altitude-down   it is not below 0 exactly where the sine of the altitude, to the nearest unit, is not
--   azimuth-within, zenith-within   at most 3599, or 65,535
use Rattle.std.specs.Prelude.{◌≡◌, ◌⊎◌, ◌≤◌, ℤ, pos, nat_abs, ◌≤ℤ◌, ◌<ℤ◌}
use Rattle.sine_table.specs.Table.{S}
use Rattle.sine.specs.Sine.{sine, cosine}
use Rattle.shadow_geometry.specs.laws.DirectionLaws.{direction-limit}
use Rattle.requests.specs.declared.Occultation.{Occultation}
use Rattle.horizon.specs.Altitude.{kept}
use Rattle.horizon.specs.laws.AltitudeLaws.{kept-size, kept_above, kept-below, altitude-size, altitude_above, altitude_below}
use Rattle.horizon.specs.Horizon.{altitude_sine, east, north, zenith_east, zenith_north, orientation_at, horizon_at}

module _ (o : Occultation) (τ : ℤ) where
  -- a, the sine of the altitude at that second
  abbrev pub sine_at : ℤ
  sine_at = altitude_sine (sine o.station.latitude) (cosine o.station.latitude) (orientation_at o τ)

  pub altitude-within : nat_abs (horizon_at o τ).altitude ≤ 900
  unfolding horizon_at
  altitude-within = altitude-size (kept sine_at)

  pub altitude-up : pos 0 ≤ℤ sine_at → pos 0 ≤ℤ (horizon_at o τ).altitude
  unfolding horizon_at
  altitude-up h = altitude_above (kept sine_at) (kept_above sine_at h)

  pub altitude-down : sine_at <ℤ pos 0 → (horizon_at o τ).altitude <ℤ pos 0
  unfolding horizon_at
  altitude-down h = altitude_below (kept sine_at) (kept-size sine_at) (kept-below sine_at h)

  pub azimuth-within : ((horizon_at o τ).azimuth ≤ 3599) ⊎ ((horizon_at o τ).azimuth ≡ 65535)
  unfolding horizon_at
  azimuth-within = direction-limit S (east (orientation_at o τ)) (north (sine o.station.latitude) (cosine o.station.latitude) (orientation_at o τ))

  pub zenith-within : ((horizon_at o τ).zenith ≤ 3599) ⊎ ((horizon_at o τ).zenith ≡ 65535)
  unfolding horizon_at
  zenith-within = direction-limit S (zenith_east (cosine o.station.latitude) (orientation_at o τ)) (zenith_north (sine o.station.latitude) (cosine o.station.latitude) (orientation_at o τ))
