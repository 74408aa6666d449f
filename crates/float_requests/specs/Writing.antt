-- Document 02, wish 5, "The other way": 22 elements and a longitude in whole units, as doubles. Definitions only.
use Rattle.std.specs.Prelude.{◌≡◌, cond, List, [], ◌∷◌, ◌++◌, ℕ, leb, eqb, ℤ, pos, length, get_or, drop, Float, Result, Err, Ok}
use Rattle.sheet_types.specs.declared.refusals.Refusal.{Refusal}
use Rattle.sheet_types.specs.Refusals.{refusal, andThen}
use Rattle.elements.specs.Elements.{elements_of, elements_checked}
use Rattle.station.specs.declared.Station.{Station}
use Rattle.station.specs.Station.{station_checked}
use Rattle.binary64.specs.declared.Longitude.TheVariants.{Degrees}
use Rattle.binary64.specs.Doubles.{longitude_of, double_of}
use Rattle.float_requests.specs.Instrument.{doubles_of, double, finite_checked, scales, elements_in}

-- "a whole unit becomes a double by one division by 1,000,000, or by 10^8 for lengths and tangents"
abbrev pub doubles_in : List ℕ → List ℤ → List Float
doubles_in (s ∷ ss) (u ∷ us) = double_of s u ∷ doubles_in ss us
doubles_in (s ∷ ss) [] = []
doubles_in [] us = []

-- document 01's refusal 3, "2 longitude": of a station whose other values are in their ranges
abbrev pub only_longitude : ℤ → Station
only_longitude u = record { number = pos 1; latitude = pos 0; longitude = u; height = pos 0; deltat = pos 0 }

abbrev pub longitude_checked : ℤ → Result Unit Refusal
longitude_checked u = station_checked (only_longitude u)

-- 22 elements and a longitude, "for every value in range": 10 for another length than 23, 2 and 3 out of range, 4
-- with 23 where the buffer is short
abbrev in_room : Result Unit Refusal → ℕ → Result Unit Refusal
in_room (Err r) room = Err r
in_room (Ok tt) room = cond (leb 23 room) (Ok tt) (Err (refusal 4 23))

unfoldable pub answer_to : List ℤ → ℕ → Result Unit Refusal
answer_to us room =
    cond (eqb (length us) 23) (in_room (andThen (elements_checked (elements_of us)) (longitude_checked (get_or us 22 (pos 0)))) room) (Err (refusal 10 0))

-- after a refusal the buffer holds its old doubles, after success those past the 23 do
abbrev pub room_after : Result Unit Refusal → List ℤ → List Float → List Float
room_after (Ok tt) us old = doubles_in scales us ++ drop 23 old
room_after (Err r) us old = old

-- "and reading it back gives the same unit": of the doubles in the caller's buffer
pub record ReadBack (us : List ℤ) (room : List Float) : Type 0 where
  pub all_finite : finite_checked (doubles_of room) (Degrees (double room 22)) ≡ Ok tt
  pub elements : elements_in (doubles_of room) ≡ elements_of us
  pub longitude : longitude_of (Degrees (double room 22)) ≡ get_or us 22 (pos 0)

abbrev pub Claimed : Result Unit Refusal → List ℤ → List Float → Type 0
Claimed (Ok tt) us room = ReadBack us room
Claimed (Err r) us room = Unit
