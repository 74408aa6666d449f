-- What a network's list is refused for before the buffer for table S: document 02, wish 10. Definitions only. What
-- its clocks are: Steps.
use Rattle.std.specs.Prelude.{false, cond, ◌&&◌, List, [], ◌∷◌, ℕ, suc, ◌+◌, ◌*◌, ltb, leb, ℤ, pos, length, get_or, Result, Ok, Err}
use Rattle.sheet_types.specs.declared.refusals.Refusal.{Refusal}
use Rattle.sheet_types.specs.Refusals.{refusal, andThen}
use Rattle.elements.specs.declared.Body.TheVariants.{Sun}
use Rattle.elements.specs.Elements.{elements_of}
use Rattle.elements.specs.Stars.{body_checked}
use Rattle.station.specs.declared.Station.{Station}
use Rattle.station.specs.Station.{station_checked}
use Rattle.requests.specs.declared.Request.{Request}
use Rattle.requests.specs.Requests.{window_checked, guard_checked}
use Rattle.clock_network.specs.Defined.{firstRepeat, firstStray, first_lost}
use Rattle.clock_network.specs.declared.stations.Node.{Node}
use Rattle.clock_network.specs.Nodes.{numbers_of, clocks_of}
use Rattle.clock_network.specs.declared.checks.Eclipse.{Eclipse}

-- the 22 elements, the window's first and last second, the guard
unfoldable pub eclipse_of : List ℤ → Eclipse
eclipse_of ns =
    record {
      elements = elements_of ns;
      window = record { first = get_or ns 22 (pos 0); last = get_or ns 23 (pos 0) };
      guard = get_or ns 24 (pos 0);
    }

-- the request of "the sheet the station gets alone"
abbrev pub request_of : Eclipse → Station → Request
request_of e s = record { elements = e.elements; station = s; window = e.window; guard = e.guard; share = false }

-- ---- the refusals, in their order

-- "19 with place 0 for an empty list or one over 64, before 1"
abbrev pub size_checked : List Node → Result Unit Refusal
size_checked l = cond (leb 1 (length l) && leb (length l) 64) (Ok tt) (Err (refusal 19 0))

-- 1 and 2, as a request's
abbrev pub eclipse_checked : Eclipse → Result Unit Refusal
eclipse_checked e = andThen (window_checked e.window) (andThen (guard_checked e.guard) (body_checked (Sun e.elements)))

-- "3 with ten times the list place, counted from 0, plus the field"
abbrev pub at_place : ℕ → Result Unit Refusal → Result Unit Refusal
at_place i (Ok tt) = Ok tt
at_place i (Err r) = Err (refusal r.number (10 * i + r.place))

abbrev pub stations_checked : ℕ → List Node → Result Unit Refusal
stations_checked i [] = Ok tt
stations_checked i (n ∷ l) = andThen (at_place i (station_checked n.station)) (stations_checked (suc i) l)

-- "each with the first such list place": a place of a list of n
abbrev pub place_checked : (number place n : ℕ) → Result Unit Refusal
place_checked number place n = cond (ltb place n) (Err (refusal number place)) (Ok tt)

-- "14 for a number already used"
abbrev pub repeat_checked : List ℤ → Result Unit Refusal
repeat_checked ns = place_checked 14 (firstRepeat ns) (length ns)

-- "15 for a clock neither 0 nor in the list"
abbrev pub stray_checked : List ℤ → List ℤ → Result Unit Refusal
stray_checked ns cs = place_checked 15 (firstStray ns cs) (length ns)

-- "16 for a station whose chain never reaches 0"
abbrev pub lost_checked : List ℤ → List ℤ → Result Unit Refusal
lost_checked ns cs = place_checked 16 (first_lost ns cs) (length ns)

unfoldable pub clocks_checked : List ℤ → List ℤ → Result Unit Refusal
clocks_checked ns cs = andThen (repeat_checked ns) (andThen (stray_checked ns cs) (lost_checked ns cs))

unfoldable pub checked : Eclipse → List Node → Result Unit Refusal
checked e l =
    andThen (size_checked l) (andThen (eclipse_checked e) (andThen (stations_checked 0 l) (clocks_checked (numbers_of l) (clocks_of l))))
