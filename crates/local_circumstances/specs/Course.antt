-- The course of an occultation: what is said of each of its seconds. Definitions only.
use Rattle.std.specs.Prelude.{ℕ, ℤ, nat_abs}
use Rattle.shadow_geometry.specs.Shadow.{phases_of}
use Rattle.elements.specs.declared.Body.{Body}
use Rattle.elements.specs.declared.Body.TheVariants as B
use Rattle.station.specs.declared.Place.{Place}
use Rattle.station.specs.Place.{place_of}
use Rattle.requests.specs.declared.Occultation.{Occultation}
use Rattle.requests.specs.Shares.{sharing}
use Rattle.seconds.specs.Seconds.{state_at, direction_at, magnitude_at, closestOf}
use Rattle.obscuration.specs.Covered.{share_at}
use Rattle.local_circumstances.specs.Courses.{Course}

-- the covered share at second τ; a star has none
abbrev pub share_of : Body → Place → ℤ → ℕ
share_of (B.Sun e) p τ = share_at e p τ
share_of (B.Star s) p τ = 0

-- what is said of each second
abbrev pub course_of : Occultation → Course
course_of o =
    record {
      station = nat_abs o.station.number;
      window = o.window;
      guard = nat_abs o.guard;
      phases = phases_of o.body;
      state = state_at o;
      direction = direction_at o;
      closest = closestOf o;
      magnitude = magnitude_at o;
      sharing = sharing o;
      share = share_of o.body (place_of o.station);
    }
