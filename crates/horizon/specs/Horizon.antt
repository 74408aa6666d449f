-- The horizon at a second of an occultation: the altitude and the azimuth of the Sun or the star over the plane at
-- right angles to the spheroid's normal, and the direction of the zenith from it. A rule of our own, beside the
-- documents: no refraction and no dip. Definitions only.
use Rattle.std.specs.Prelude.{List, ℕ, ℤ, neg_ℤ, ◌+ℤ◌, ◌-ℤ◌, ◌*ℤ◌, Result, Err, Ok}
use Rattle.sheet_types.specs.declared.refusals.Refusal.{Refusal}
use Rattle.rounding.specs.Units.{one}
use Rattle.rounding.specs.Near.{near}
use Rattle.sine_table.specs.Table.{S}
use Rattle.sine.specs.Sine.{sine, cosine}
use Rattle.shadow_geometry.specs.Shadow.{Moment, H, d}
use Rattle.shadow_geometry.specs.Direction.{direction}
use Rattle.shadow.specs.declared.Orientation.{Orientation}
use Rattle.requests.specs.declared.Occultation.{Occultation}
use Rattle.seconds.specs.Seconds.{moment_at}
use Rattle.seconds.specs.OneSecond.{second_checked, second_sines}
use Rattle.horizon.specs.declared.Horizon.{Horizon}
use Rattle.horizon.specs.Altitude.{kept, altitude}

-- ---- of s and c, the sine and the cosine of the geodetic latitude, and of the sines and cosines of H and d

-- "a = near((s·sin d + near(c·cos H/10^8)·cos d)/10^8), the sine of the axis' altitude .., kept within ±10^8"
unfoldable pub altitude_sine : (s c : ℤ) → Orientation → ℤ
altitude_sine s c o = near (s *ℤ o.dsine +ℤ near (c *ℤ o.hcosine) one *ℤ o.dcosine) one

-- "(east, north) = (near(-cos d·sin H/10^8), near((c·sin d - near(s·cos H/10^8)·cos d)/10^8))": where the axis points,
-- over the horizontal plane
unfoldable pub east : Orientation → ℤ
east o = near (neg_ℤ (o.dcosine *ℤ o.hsine)) one

unfoldable pub north : (s c : ℤ) → Orientation → ℤ
north s c o = near (c *ℤ o.dsine -ℤ near (s *ℤ o.hcosine) one *ℤ o.dcosine) one

-- "(near(c·sin H/10^8), near((s·cos d - near(c·cos H/10^8)·sin d)/10^8))": where the zenith lies on the plane at right
-- angles to the axis
unfoldable pub zenith_east : (c : ℤ) → Orientation → ℤ
zenith_east c o = near (c *ℤ o.hsine) one

unfoldable pub zenith_north : (s c : ℤ) → Orientation → ℤ
zenith_north s c o = near (s *ℤ o.dcosine -ℤ near (c *ℤ o.hcosine) one *ℤ o.dsine) one

-- "azimuth, tenths of a degree from north through east, by document 01's direction rule .., 65,535 where both are 0";
-- "zenith, .. by the same rule"
abbrev pub horizon_of : (s c : ℤ) → Orientation → Horizon
horizon_of s c o =
    record {
      altitude = altitude S (kept (altitude_sine s c o));
      azimuth = direction S (east o) (north s c o);
      zenith = direction S (zenith_east c o) (zenith_north s c o);
    }

-- ---- of a second of an occultation

-- "sin H, cos H, sin d, cos d those of the shadow rule at that second"
abbrev pub orientation_of : Moment → Orientation
orientation_of m = record { hsine = sine (H m); hcosine = cosine (H m); dsine = sine (d m); dcosine = cosine (d m) }

-- "For a star the same with its d0"
abbrev pub orientation_at : Occultation → ℤ → Orientation
orientation_at o τ = orientation_of (moment_at o τ)

unfoldable pub horizon_at : Occultation → ℤ → Horizon
horizon_at o τ = horizon_of (sine o.station.latitude) (cosine o.station.latitude) (orientation_at o τ)

-- ---- with the refusals, in their order, and the buffer for table S, of one second (seconds, OneSecond)
abbrev pub horizon_by : Result Unit Refusal → Occultation → ℤ → Result Horizon Refusal
horizon_by (Err r) o τ = Err r
horizon_by (Ok tt) o τ = Ok (horizon_at o τ)

unfoldable pub horizon_answer : Occultation → ℤ → List ℕ → Result Horizon Refusal
horizon_answer o τ sines = horizon_by (second_checked o τ sines) o τ

-- that buffer afterwards: as after one second
abbrev pub horizon_sines : Occultation → ℤ → List ℕ → List ℕ
horizon_sines o τ sines = second_sines o τ sines
