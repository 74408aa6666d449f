-- The station's place: R from the Earth's axis, P from the plane of the equator. Lengths and sines are in units of
-- 10^-8.
use Rattle.std.specs.Prelude.{ℤ, pos, nat_abs, ◌+ℤ◌, ◌-ℤ◌, ◌*ℤ◌}
use Rattle.rounding.specs.Units.{one}
use Rattle.rounding.specs.Near.{near}
use Rattle.rounding.specs.Root.{root}
use Rattle.sine.specs.Sine.{sine, cosine}
use Rattle.station.specs.declared.Station.{Station}
use Rattle.station.specs.declared.Place.{Place}

-- "Krasovsky's spheroid: radius 6,378,245 m and flattening 1:298.3 .., so E = 99,330,658.": (1 - 1/298.3)^2
abbrev pub equatorial_radius : ℤ
equatorial_radius = pos 6378245

abbrev pub E : ℤ
E = pos 99330658

-- "With s, c the sine and cosine of latitude: W = root(c² + near(s·E/10^8)·s)". What is under the root is not
-- negative: PlaceLaws, under_low.
unfoldable pub under : (s c : ℤ) → ℤ
under s c = c *ℤ c +ℤ near (s *ℤ E) one *ℤ s

unfoldable pub W : (s c : ℤ) → ℤ
W s c = pos (root (nat_abs (under s c)))

-- "C = near(10^16/W)"
unfoldable pub C : (s c : ℤ) → ℤ
C s c = near (pos 10000000000000000) (W s c)

-- "Z = near(C·E/10^8)"
unfoldable pub Z : (s c : ℤ) → ℤ
Z s c = near (C s c *ℤ E) one

-- "h = near(height·10^8/6,378,245)"
unfoldable pub h : (height : ℤ) → ℤ
h height = near (height *ℤ one) equatorial_radius

-- "R = near((C+h)·c/10^8)"
unfoldable pub R : (latitude height : ℤ) → ℤ
R latitude height = near ((C (sine latitude) (cosine latitude) +ℤ h height) *ℤ cosine latitude) one

-- "P = near((Z+h)·s/10^8)"
unfoldable pub P : (latitude height : ℤ) → ℤ
P latitude height = near ((Z (sine latitude) (cosine latitude) +ℤ h height) *ℤ sine latitude) one

-- document 02, wish 1: "H becomes μ plus longitude less near(ΔT·417,807/10,000)": the Earth's turn in ΔT, 0.00417807
-- degrees a second
unfoldable pub turn_in : (ΔT : ℤ) → ℤ
turn_in ΔT = near (ΔT *ℤ pos 417807) (pos 10000)

-- and what H adds to μ, the Explanatory Supplement's ephemeris longitude, to the east
unfoldable pub ephemeris_longitude : (longitude ΔT : ℤ) → ℤ
ephemeris_longitude longitude ΔT = longitude -ℤ turn_in ΔT

-- the place: R, P, and what H adds to μ
unfoldable pub place_of : Station → Place
place_of s =
    record {
      r = R s.latitude s.height;
      p = P s.latitude s.height;
      longitude = ephemeris_longitude s.longitude s.deltat;
    }
