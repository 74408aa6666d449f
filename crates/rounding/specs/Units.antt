-- Document 01's units, as what a number in units is divided by.
use Rattle.std.specs.Prelude.{ℤ, pos}

-- "Lengths: 1 unit is 10^-8 of the Earth's equatorial radius. Sines, cosines, tangents: 10^-8.": a whole
abbrev pub one : ℤ
one = pos 100000000

-- "Time: whole seconds τ"; "Coefficients are per hour": the seconds of an hour
abbrev pub hour : ℤ
hour = pos 3600
