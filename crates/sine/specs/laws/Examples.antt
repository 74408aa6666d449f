-- Rows that document 01 gives, computed from the definitions.
use Rattle.std.specs.Prelude.{◌≡◌, refl, pos, negsuc}
use Rattle.rounding.specs.Near.{near}
use Rattle.sine_table.specs.Table.{factorial, numerator, denominator, common, term, series, S}
use Rattle.sine.specs.FirstQuadrant.{arc, sag, between, capped, first_quadrant}
use Rattle.sine.specs.Sine.{reduced, sineIn, sine, cosine}

-- "sine of 30°"
pub sine_of_30 : sine (pos 30_000_000) ≡ pos 50_000_000
unfolding near factorial numerator denominator common term series S arc sag between capped first_quadrant reduced sineIn sine
sine_of_30 = refl

-- "sine of 0.000001° is 2"
pub sine_of_least : sine (pos 1) ≡ pos 2
unfolding near factorial numerator denominator common term series S arc sag between capped first_quadrant reduced sineIn sine
sine_of_least = refl

-- "sine of 89.999999° is 10^8 (the cap acts)"
pub sine-capped : sine (pos 89_999_999) ≡ pos 100_000_000
unfolding near factorial numerator denominator common term series S arc sag between capped first_quadrant reduced sineIn sine
sine-capped = refl

pub over_cap : between 899 (arc 99_999) (sag (arc 99_999)) ≡ pos 100_000_001
unfolding near factorial numerator denominator common term series S arc sag between
over_cap = refl

-- "cosine of 180° is -10^8"
pub cosine_of_180 : cosine (pos 180_000_000) ≡ negsuc 99_999_999
unfolding near factorial numerator denominator common term series S arc sag between capped first_quadrant reduced sineIn cosine
cosine_of_180 = refl

-- an angle below 0, and one past a turn
pub sine_below_zero : sine (negsuc 29_999_999) ≡ negsuc 49_999_999
unfolding near factorial numerator denominator common term series S arc sag between capped first_quadrant reduced sineIn sine
sine_below_zero = refl

pub sine_past_turn : sine (pos 390_000_000) ≡ pos 50_000_000
unfolding near factorial numerator denominator common term series S arc sag between capped first_quadrant reduced sineIn sine
sine_past_turn = refl
