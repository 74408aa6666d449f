-- The programs' input: the request that its bytes hold, an eclipse's or a star's.
-- The bytes of a request: Layout and Request; its numbers: Fields.
use Rattle.std.specs.Prelude.{false, List, [], ℕ, ◌+◌, ℤ, pos, get_or, Result, Ok, Err}
use Rattle.requests.specs.declared.Occultation.{Occultation}
use Rattle.sheet_types.specs.declared.refusals.Refusal.{Refusal}
use Rattle.elements.specs.Elements.{elements_of}
use Rattle.elements.specs.Stars.{star_of}
use Rattle.station.specs.declared.Station.{Station}
use Rattle.sheet_types.specs.Refusals.{refusal}
use Rattle.requests.specs.declared.windows.Window.{Window}
use Rattle.requests.specs.declared.Request.{Request}
use Rattle.requests.specs.declared.StarRequest.{StarRequest}
use Rattle.requests.specs.Requests.{of_eclipse, of_star}
use Rattle.requests.specs.Shares.{with_share}
use Rattle.request_format.specs.declared.fields.Shape.TheVariants as S
use Rattle.request_format.specs.Layout.{Reading, numbers, misshaped}
use Rattle.request_format.specs.Request.{reading_for, reading_of, numbers_after}

-- ---- the request of its numbers, in document 01's order

abbrev pub number : List ℤ → ℕ → ℤ
number ns k = get_or ns k (pos 0)

-- "number .., latitude, longitude, height", and ΔT (document 02, wish 1): from number k on
unfoldable pub station_from : ℕ → List ℤ → Station
station_from k ns =
    record {
      number = number ns k;
      latitude = number ns (k + 1);
      longitude = number ns (k + 2);
      height = number ns (k + 3);
      deltat = number ns (k + 4);
    }

-- "first, last"
unfoldable pub window_from : ℕ → List ℤ → Window
window_from k ns = record { first = number ns k; last = number ns (k + 1) }

-- document 02, wish 9: "the program's kind 04 ends with it". Wish 4: "(the program never does)" ask for a share, and
-- no byte does
unfoldable pub request_from : List ℤ → Request
request_from ns = record { elements = elements_of ns; station = station_from 22 ns; window = window_from 27 ns; guard = number ns 29; share = false }

-- document 02, wish 7: twelve elements and the radius, then station, window and guard as in an eclipse's
unfoldable pub star_from : List ℤ → StarRequest
star_from ns = record { star = star_of ns; station = station_from 13 ns; window = window_from 18 ns; guard = number ns 20 }

-- ---- the request of its bytes

-- "10 | program input not of the shape below | 0"
abbrev pub input_by : Reading → Result Request Refusal
input_by (numbers ns) = Ok (request_from ns)
input_by misshaped = Err (refusal 10 0)

unfoldable pub input_of : List ℕ → Result Request Refusal
input_of s = input_by (reading_of s)

-- the request that was asked for, where there is one
unfoldable pub request_of : List ℕ → Request
request_of s = request_from (numbers_after (reading_of s) [])

-- ---- the same with a share asked for

abbrev pub sharing : Result Request Refusal → Result Request Refusal
sharing (Ok q) = Ok (with_share q)
sharing (Err r) = Err r

-- ---- what a sheet is asked for

abbrev pub eclipse_asked : Result Request Refusal → Result Occultation Refusal
eclipse_asked (Ok q) = Ok (of_eclipse q)
eclipse_asked (Err r) = Err r

-- of a star's bytes
abbrev pub star_by : Reading → Result Occultation Refusal
star_by (numbers ns) = Ok (of_star (star_from ns))
star_by misshaped = Err (refusal 10 0)

unfoldable pub star_asked : List ℕ → Result Occultation Refusal
star_asked s = star_by (reading_for S.Star s)

-- the request that was asked for, where there is one
unfoldable pub star_request_of : List ℕ → StarRequest
star_request_of s = star_from (numbers_after (reading_for S.Star s) [])

-- ---- the station's ΔT, in hundredths of a second; 0 where nothing is asked for

abbrev pub delta_for : Result Occultation Refusal → ℤ
delta_for (Ok o) = o.station.deltat
delta_for (Err r) = pos 0

unfoldable pub delta_of : List ℕ → ℤ
delta_of s = delta_for (eclipse_asked (input_of s))

unfoldable pub star_delta : List ℕ → ℤ
star_delta s = delta_for (star_asked s)
