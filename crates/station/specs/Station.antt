-- A station's numbers and their ranges.
use Rattle.std.specs.Prelude.{List, [], ◌∷◌, ℤ, pos, neg_ℤ, Option, Result, ℕ}
use Rattle.sheet_types.specs.declared.refusals.Refusal.{Refusal}
use Rattle.rounding.specs.Limits.{Row, row, ◌±◌, first_out_of_range}
use Rattle.sheet_types.specs.Refusals.{of_limits}
use Rattle.station.specs.declared.Station.{Station}

-- "first: 0 number, 1 latitude, 2 longitude, 3 height"; document 02, wish 1: "3 with place 4 for ΔT, after height"
abbrev pub fields : Station → List ℤ
fields s = s.number ∷ s.latitude ∷ s.longitude ∷ s.height ∷ s.deltat ∷ []

-- "Station: number 1 to 999; geodetic latitude ±90,000,000; longitude ±180,000,000, **east positive** ..; height -500
-- to 9,000 m." document 02, wish 1: "The station record gains ΔT in hundredths of a second, -10,000 to 20,000"
unfoldable pub ranges : Station → List Row
ranges s =
    row s.number (pos 1) (pos 999)
    ∷ (s.latitude ± 90000000)
    ∷ (s.longitude ± 180000000)
    ∷ row s.height (neg_ℤ (pos 500)) (pos 9000)
    ∷ row s.deltat (neg_ℤ (pos 10000)) (pos 20000)
    ∷ []

-- the first number that is out of its range
unfoldable pub range_of : Station → Option ℕ
range_of s = first_out_of_range 0 (ranges s)

-- "3 | a station value outside its range | first: 0 number, 1 latitude, 2 longitude, 3 height"; document 02,
-- wish 1: "3 with place 4 for ΔT, after height"
abbrev pub station_checked : Station → Result Unit Refusal
station_checked s = of_limits 3 (range_of s)
