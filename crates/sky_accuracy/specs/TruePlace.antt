-- The place of a station on the true spheroid: R from the Earth's axis and P from the plane of the equator, of which
-- nothing is rounded but C, in units of 10^-8. Definitions only.
use Rattle.std.specs.Prelude.{ℕ, ◌*◌, ◌≤◌, ℤ, pos, nat_abs, ◌+ℤ◌, ◌-ℤ◌, ◌*ℤ◌}
use Rattle.station.specs.Place as Rule
use Rattle.sine_accuracy.specs.Series.{common}
use Rattle.sine_accuracy.specs.TrueSine.{true_sine, true_cosine}

-- Krasovsky's spheroid, E as document 01 gives it. "With s, c the sine and cosine of latitude", true ones over
-- `common`: c² + E·s², over 10^8·common²
unfoldable pub under_true : (latitude : ℤ) → ℤ
under_true latitude = pos 100_000_000 *ℤ (true_cosine latitude *ℤ true_cosine latitude) +ℤ Rule.E *ℤ (true_sine latitude *ℤ true_sine latitude)

-- C = 1/√(c² + E·s²) without a root: any fraction n/m whose square, times c² + E·s², is 1 to 10^-16. So C is known to
-- 10^-8 of a unit; there is such a fraction at every latitude (Exists)
pub record TrueC (latitude : ℤ) : Type 0 where
  pub n : ℕ
  pub m : ℕ
  pub some : 1 ≤ m
  pub one : 10_000_000_000_000_000 * nat_abs (pos (n * n) *ℤ under_true latitude -ℤ pos (100_000_000 * (m * m) * (common * common)))
      ≤ 100_000_000 * (m * m) * (common * common)

-- R = (C + h)·c and P = (C·E + h)·s with h = height/6,378,245, in units: whole numbers over `place_common`
unfoldable pub place_common : {latitude : ℤ} → TrueC latitude → ℕ
place_common t = 6_378_245 * t.m * common

unfoldable pub true_r : {latitude : ℤ} → TrueC latitude → (height : ℤ) → ℤ
true_r {latitude} t height =
    pos 100_000_000 *ℤ (pos t.n *ℤ Rule.equatorial_radius +ℤ height *ℤ pos t.m) *ℤ true_cosine latitude

unfoldable pub true_p : {latitude : ℤ} → TrueC latitude → (height : ℤ) → ℤ
true_p {latitude} t height =
    (Rule.E *ℤ (pos t.n *ℤ Rule.equatorial_radius) +ℤ pos 100_000_000 *ℤ (height *ℤ pos t.m)) *ℤ true_sine latitude

-- ---- how far the rule's place is from it: R within 5 units, P within 5½

pub record PlaceClose {latitude : ℤ} (t : TrueC latitude) (height : ℤ) : Type 0 where
  pub R : nat_abs (pos (place_common t) *ℤ Rule.R latitude height -ℤ true_r t height) ≤ 5 * place_common t
  pub P : 2 * nat_abs (pos (place_common t) *ℤ Rule.P latitude height -ℤ true_p t height) ≤ 11 * place_common t
