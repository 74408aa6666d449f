-- Document 01's examples of a place, by computation.
use Rattle.std.specs.Prelude.{◌≡◌, refl, pos, negsuc}
use Rattle.rounding.specs.Near.{near}
use Rattle.rounding.specs.Root.{root}
use Rattle.sine_table.specs.Table.{factorial, numerator, denominator, common, term, series, S}
use Rattle.sine.specs.FirstQuadrant.{arc, sag, between, capped, first_quadrant}
use Rattle.sine.specs.Sine.{reduced, sineIn, sine, cosine}
use Rattle.station.specs.Place.{under, W, C, Z, h, R, P, turn_in, ephemeris_longitude}

-- "the place at latitude 90°, height 0, is R 0, P 99,664,768"
pub pole_R : R (pos 90000000) (pos 0) ≡ pos 0
unfolding near root factorial numerator denominator common term series S arc sag between capped first_quadrant reduced sineIn sine cosine under W C Z h R P
pole_R = refl

pub pole_P : P (pos 90000000) (pos 0) ≡ pos 99664768
unfolding near root factorial numerator denominator common term series S arc sag between capped first_quadrant reduced sineIn sine cosine under W C Z h R P
pole_P = refl

-- "and at the equator R 10^8, P 0"
pub equator_R : R (pos 0) (pos 0) ≡ pos 100000000
unfolding near root factorial numerator denominator common term series S arc sag between capped first_quadrant reduced sineIn sine cosine under W C Z h R P
equator_R = refl

pub equator_P : P (pos 0) (pos 0) ≡ pos 0
unfolding near root factorial numerator denominator common term series S arc sag between capped first_quadrant reduced sineIn sine cosine under W C Z h R P
equator_P = refl

-- Document 02's ephemeris longitude. In a sidereal day, 86,164.09 s, the Earth turns once, here to 0.0004 degrees
pub sidereal_day : ephemeris_longitude (pos 360000000) (pos 8616409) ≡ pos 400
unfolding near turn_in ephemeris_longitude
sidereal_day = refl

-- a ΔT of 69.18 s turns the station back by 0.289039 degrees, one of -1 s ahead by 0.004178
pub turned_west : ephemeris_longitude (pos 0) (pos 6918) ≡ negsuc 289038
unfolding near turn_in ephemeris_longitude
turned_west = refl

pub turned-east : ephemeris_longitude (pos 0) (negsuc 99) ≡ pos 4178
unfolding near turn_in ephemeris_longitude
turned-east = refl
