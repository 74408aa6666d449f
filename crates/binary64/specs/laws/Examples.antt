-- Worked examples as theorems, by computation.
use Rattle.std.specs.Prelude.{◌≡◌, refl, true, false, pos, negsuc, Err}
use Rattle.std.specs.Float.{fin, binary64}
use Rattle.std.specs.Float.Ieee.{of_bits}
use Rattle.binary64.specs.declared.NotUnits.TheVariants as NotUnits
use Rattle.rounding.specs.Near.{near}
use Rattle.binary64.specs.declared.Longitude.TheVariants.{Degrees, Hours}
use Rattle.binary64.specs.Doubles.{units_of, longitude_of, fitted, reading_of}

-- 1/128 degree is 7812.5 units: halves go away from zero
half-north : units_of 1_000_000 (fin false 1 (negsuc 6)) ≡ pos 7813
unfolding units_of near
half-north = refl

half_south : units_of 1_000_000 (fin true 1 (negsuc 6)) ≡ negsuc 7812
unfolding units_of near
half_south = refl

-- 0.1, by its bits, is 100,000 units of 10^-6 and 10,000,000 of 10^-8
tenth : units_of 1_000_000 (of_bits binary64 0x3fb9_9999_9999_999a) ≡ pos 100_000
unfolding units_of near of_bits
tenth = refl

tenth_length : units_of 100_000_000 (of_bits binary64 0x3fb9_9999_9999_999a) ≡ pos 10_000_000
unfolding units_of near of_bits
tenth_length = refl

-- 12 hours are 180 degrees, and -0 is 0
twelve_hours : longitude_of (Hours (fin false 3 (pos 2))) ≡ pos 180_000_000
unfolding units_of near
twelve_hours = refl

minus_nought : longitude_of (Degrees (fin true 0 (pos 0))) ≡ pos 0
unfolding units_of near
minus_nought = refl

-- the largest double, an infinity and a NaN
largest : reading_of 1_000_000 (of_bits binary64 0x7fef_ffff_ffff_ffff) ≡ Err NotUnits.TooLarge
unfolding reading_of fitted units_of near of_bits
largest = refl

minus_infinity : reading_of 1_000_000 (of_bits binary64 0xfff0_0000_0000_0000) ≡ Err NotUnits.NotFinite
unfolding reading_of of_bits
minus_infinity = refl

no_number : reading_of 1_000_000 (of_bits binary64 0x7ff8_0000_0000_0000) ≡ Err NotUnits.NotFinite
unfolding reading_of of_bits
no_number = refl
