-- The mirrored station, where f changes the sign of a number, and its place. Definitions only.
use Rattle.std.specs.Prelude.{ℤ, neg_ℤ}
use Rattle.station.specs.declared.Station.{Station}
use Rattle.station.specs.declared.Place.{Place}

-- document 02, wish 13: "change the sign of .. the latitude"
abbrev pub mirrored_station : (f : ℤ → ℤ) → Station → Station
mirrored_station f s = record { number = s.number; latitude = f s.latitude; longitude = s.longitude; height = s.height; deltat = s.deltat }

-- as far from the axis, and as far on the other side of the equator's plane
abbrev pub mirrored_place : Place → Place
mirrored_place p = record { r = p.r; p = neg_ℤ p.p; longitude = p.longitude }
