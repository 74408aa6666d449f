-- Requests, the occultation that each asks for, and what it is refused for. Definitions only.
use Rattle.std.specs.Prelude.{Bool, false, cond, ◌&&◌, ℤ, pos, Result, Ok, Err}
use Rattle.std.specs.Int.Signed.{le_z}
use Rattle.sheet_types.specs.declared.refusals.Refusal.{Refusal}
use Rattle.sheet_types.specs.Refusals.{refusal, andThen}
use Rattle.elements.specs.declared.Body.TheVariants as B
use Rattle.elements.specs.Stars.{body_checked}
use Rattle.station.specs.Station.{station_checked}
use Rattle.requests.specs.declared.windows.Window.{Window}
use Rattle.requests.specs.declared.Request.{Request}
use Rattle.requests.specs.declared.StarRequest.{StarRequest}
use Rattle.requests.specs.declared.Occultation.{Occultation}
use Rattle.requests.specs.Windows.{window_holds}

-- an eclipse is an occultation of the Sun
abbrev pub of_eclipse : Request → Occultation
of_eclipse q = record { body = B.Sun q.elements; station = q.station; window = q.window; guard = q.guard; share = q.share }

-- document 02, wish 7: "A star request has no way to ask for kind 31."
abbrev pub of_star : StarRequest → Occultation
of_star q = record { body = B.Star q.star; station = q.station; window = q.window; guard = q.guard; share = false }

-- "1 | window outside its range | 0"
abbrev pub window_checked : Window → Result Unit Refusal
window_checked w = cond (window_holds w) (Ok tt) (Err (refusal 1 0))

-- document 02, wish 9: "a guard of 16 to 1,000"
unfoldable pub guard_holds : ℤ → Bool
guard_holds g = le_z (pos 16) g && le_z g (pos 1000)

-- document 02, wish 9: "1 with place 1 for a request's guard, after the window"
abbrev pub guard_checked : ℤ → Result Unit Refusal
guard_checked g = cond (guard_holds g) (Ok tt) (Err (refusal 1 1))

-- "Requests: 10, 1, 2, 3, 4". Of these the numbers raise 1, then 2, an element's, then 3, a station value's; document
-- 02, wish 7: "13 with place 0 for the radius, after 2"
unfoldable pub checked : Occultation → Result Unit Refusal
checked o =
    andThen (window_checked o.window)
    (andThen (guard_checked o.guard) (andThen (body_checked o.body) (station_checked o.station)))
