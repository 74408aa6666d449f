-- Document 02, wish 5: a double in whole units, and a whole unit as a double. Definitions only. A double is a `Float`
-- of lib.Ieee: a NaN, an infinity, or `fin s m e`, the number m·2^e, negative where s is true; 2^e is up e / down e.
use Rattle.std.specs.Prelude.{◌≡◌, Bool, true, false, cond, ℕ, ◌*◌, ◌^◌, ltb, ℤ, pos, neg_ℤ, nat_abs, Float, Result, Ok, Err}
use Rattle.std.specs.Float.{nan, inf, fin, binary64}
use Rattle.std.specs.Float.Ieee.{up, down, div, of_int}
use Rattle.std.specs.Float.Ieee.Scale.{finite}
use Rattle.binary64.specs.declared.NotUnits.{NotUnits}
use Rattle.rounding.specs.Near.{near}
use Rattle.binary64.specs.declared.Longitude.{Longitude}
use Rattle.binary64.specs.declared.Longitude.TheVariants.{Degrees, Hours}

-- ---- reading

-- a size and its sign
abbrev pub signed : Bool → ℕ → ℤ
signed false n = pos n
signed true n = neg_ℤ (pos n)

-- "Read a finite double as the binary fraction it exactly is, .. and give the nearest whole unit, halves away from
-- zero": near, with `scale` units to one. Nothing asks for the units of what is not finite.
unfoldable pub units_of : (scale : ℕ) → Float → ℤ
units_of scale (fin s m e) = near (signed s (m * up e * scale)) (pos (down e))
units_of scale (inf s) = pos 0
units_of scale nan = pos 0

-- "a longitude comes either as degrees or as hours of time, each marked", "hours times 15", in units of 10^-6 degree
abbrev pub double_in : Longitude → Float
double_in (Degrees x) = x
double_in (Hours x) = x

abbrev pub longitude_scale : Longitude → ℕ
longitude_scale (Degrees x) = 1_000_000
longitude_scale (Hours x) = 15 * 1_000_000

abbrev pub longitude_of : Longitude → ℤ
longitude_of l = units_of (longitude_scale l) (double_in l)

-- ---- in 64 bits

-- "one too large for 64 bits": its size is 2^63 or more (and -2^63 itself, which is as far out of every range)
unfoldable pub fitted : ℤ → Result ℤ NotUnits
fitted z = cond (ltb (nat_abs z) (2 ^ 63)) (Ok z) (Err NotUnits.TooLarge)

unfoldable pub reading_of : (scale : ℕ) → Float → Result ℤ NotUnits
reading_of scale x = cond (finite x) (fitted (units_of scale x)) (Err NotUnits.NotFinite)

-- the number that the code goes on with: one too large "is outside its range", and so is the number used in its place
-- (HeldLaws)
abbrev pub stand_in : Result ℤ NotUnits → ℤ
stand_in (Ok z) = z
stand_in (Err NotUnits.TooLarge) = pos 9223372036854775807
stand_in (Err NotUnits.NotFinite) = pos 0

abbrev pub held : ℤ → ℤ
held z = stand_in (fitted z)

-- ---- writing

-- "The other way, a whole unit becomes a double by one division": the casts lose nothing, and the division rounds once
abbrev pub double_of : (scale : ℕ) → ℤ → Float
double_of scale u = div binary64 (of_int binary64 u) (of_int binary64 (pos scale))

-- "reading it back gives the same unit"
pub record ReadsBack (scale : ℕ) (u : ℤ) (x : Float) : Type 0 where
  pub is_finite : finite x ≡ true
  pub units : units_of scale x ≡ u
