-- The true shadow at a part of an hour: the page "The shadow at one second" once more, with n parts of an hour for
-- 3,600 seconds, from the elements and the station as they are given, with no rounding and with true sines and the true
-- place in place of the rule's. The seconds are the case 3,600, hundredths of a second the case 360,000; how finely the
-- hour is cut does not matter (TrueSeconds). Definitions only. Each value is a numerator over a denominator that its
-- comment names; u, v and L stand over one.
use Rattle.std.specs.Prelude.{ℕ, ◌*◌, ℤ, pos, ◌+ℤ◌, ◌-ℤ◌, ◌*ℤ◌}
use Rattle.sheet_types.specs.declared.phases.Phase.{Phase}
use Rattle.rounding.specs.Units.{one}
use Rattle.elements.specs.declared.Axis.{Axis}
use Rattle.elements.specs.declared.Cone.{Cone}
use Rattle.station.specs.declared.Station.{Station}
use Rattle.station.specs.Place.{place_of}
use Rattle.shadow_geometry.specs.Shadow.{Moment, ◌², H, d, edge}
use Rattle.shadow_geometry.specs.Exact.{Less, DiffersAtMost}
use Rattle.sine_accuracy.specs.Angles.{angle_common, sine_at, cosine_at}
use Rattle.sky_accuracy.specs.TruePlace.{TrueC, place_common, true_r, true_p}
use Rattle.contact_times.specs.Parts.{moment_by, cube, exactQuadratic, exactCubic}

-- what the true shadow at a time is made of, the cones apart
pub record Sky : Type 0 where
  pub axis : Axis
  pub station : Station
  -- C on the spheroid, at the station's latitude
  pub C : TrueC station.latitude
  -- parts of an hour
  pub n : ℕ
  -- so many of them from the reference instant
  pub τ : ℤ

-- the same as the rule sees it
abbrev pub moment_of_sky : Sky → Moment
moment_of_sky y = moment_by y.n y.axis (place_of y.station) y.τ

-- ---- the angles

-- d and H without rounding are whole numbers over `fine`, n³·10^4, in millionths of a degree
abbrev pub fine : Sky → ℕ
fine y = cube y.n * 10_000

abbrev pub true_d : Sky → ℤ
true_d y = exactQuadratic y.n y.axis.d y.τ *ℤ pos 10_000

-- document 02, wish 1: "H becomes μ plus longitude less near(ΔT·417,807/10,000)", here without near
abbrev pub true_H : Sky → ℤ
true_H y =
    exactQuadratic y.n y.axis.mu y.τ *ℤ pos 10_000 +ℤ y.station.longitude *ℤ pos (fine y) -ℤ y.station.deltat *ℤ pos 417_807 *ℤ pos (cube y.n)

-- what they are more than the rule's whole millionths
unfoldable pub d_rest : Sky → ℤ
d_rest y = true_d y -ℤ pos (fine y) *ℤ d (moment_of_sky y)

unfoldable pub H_rest : Sky → ℤ
H_rest y = true_H y -ℤ pos (fine y) *ℤ H (moment_of_sky y)

-- their sines and cosines, over K
abbrev pub K : Sky → ℕ
K y = angle_common (fine y)

abbrev pub sin_H : Sky → ℤ
sin_H y = sine_at (fine y) (H (moment_of_sky y)) (H_rest y)

abbrev pub cos_H : Sky → ℤ
cos_H y = cosine_at (fine y) (H (moment_of_sky y)) (H_rest y)

abbrev pub sin_d : Sky → ℤ
sin_d y = sine_at (fine y) (d (moment_of_sky y)) (d_rest y)

abbrev pub cos_d : Sky → ℤ
cos_d y = cosine_at (fine y) (d (moment_of_sky y)) (d_rest y)

-- ---- the letters, R and P over Q

abbrev pub Q : Sky → ℕ
Q y = place_common y.C

abbrev pub R : Sky → ℤ
R y = true_r y.C y.station.height

abbrev pub P : Sky → ℤ
P y = true_p y.C y.station.height

-- over Q·K²: "ξ = R·sin H", "η = P·cos d - q·sin d" and "ζ = P·sin d + q·cos d" with "q = R·cos H"
unfoldable pub true_ξ : Sky → ℤ
true_ξ y = R y *ℤ sin_H y *ℤ pos (K y)

unfoldable pub true_η : Sky → ℤ
true_η y = P y *ℤ cos_d y *ℤ pos (K y) -ℤ R y *ℤ cos_H y *ℤ sin_d y

unfoldable pub true_ζ : Sky → ℤ
true_ζ y = P y *ℤ sin_d y *ℤ pos (K y) +ℤ R y *ℤ cos_H y *ℤ cos_d y

-- T = n³·10^8·Q·K², and over it "u = x-ξ, v = y-η" and "L = l - ζ·tan f"
abbrev pub T : Sky → ℕ
T y = cube y.n * 100_000_000 * (Q y * K y * K y)

unfoldable pub true_u : Sky → ℤ
true_u y = (exactCubic y.n y.axis.x y.τ *ℤ pos (Q y * K y * K y) -ℤ true_ξ y *ℤ pos (cube y.n)) *ℤ one

unfoldable pub true_v : Sky → ℤ
true_v y = (exactCubic y.n y.axis.y y.τ *ℤ pos (Q y * K y * K y) -ℤ true_η y *ℤ pos (cube y.n)) *ℤ one

unfoldable pub true_L : Sky → Cone → ℤ
true_L y k = exactQuadratic y.n k.l y.τ *ℤ pos (Q y * K y * K y) *ℤ one -ℤ true_ζ y *ℤ k.tanf *ℤ pos (cube y.n)

-- the square of the true distance, over T²
abbrev pub true_M : Sky → ℤ
true_M y = true_u y ² +ℤ true_v y ²

abbrev pub true_edge : Phase → Sky → Cone → ℤ
true_edge φ y k = edge φ (true_L y k)

-- ---- the answers, as demand 3 has them of the exact shadow

-- truly inside: the true distance is less than the true L; truly outside: any other
abbrev pub TrulyInside : Phase → Sky → Cone → Type 0
TrulyInside φ y k = Less (true_M y) (true_edge φ y k)

-- the true distance differs from the true L by at most m units
abbrev pub TrulyWithinUnits : ℤ → Phase → Sky → Cone → Type 0
TrulyWithinUnits m φ y k = DiffersAtMost (true_M y) (true_edge φ y k) (m *ℤ pos (T y))
