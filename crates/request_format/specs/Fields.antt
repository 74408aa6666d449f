-- The numbers of a request in their order, an eclipse's or a star's: their names, their units and their bytes.
use Rattle.std.specs.Prelude.{ℕ, ◌-◌, ◌/◌, ◌^◌, Bool, true, false, cond, ◌&&◌, List, [], ◌∷◌, ◌++◌, ℤ, pos, neg_ℤ, length}
use Prim.Native.String.{String}
use Rattle.std.specs.Int.Signed.{le_z}
use Rattle.request_format.specs.declared.fields.Shape.{Shape}
use Rattle.request_format.specs.declared.fields.Shape.TheVariants as S
use Rattle.request_format.specs.declared.fields.Width.{Width}
use Rattle.request_format.specs.declared.fields.Width.TheVariants as W

-- ---- the bytes of a number

abbrev pub bytes_in : Width → ℕ
bytes_in W.Unsigned2 = 2
bytes_in W.Signed2 = 2
bytes_in W.Signed4 = 4

abbrev pub is_signed : Width → Bool
is_signed W.Unsigned2 = false
is_signed W.Signed2 = true
is_signed W.Signed4 = true

-- as many numbers as the bytes tell apart; of a signed one, half are below zero
abbrev pub whole_of : Width → ℕ
whole_of w = 256 ^ bytes_in w

-- the largest number below zero, without its sign, and the largest above
abbrev pub lowest_of : Width → ℕ
lowest_of w = cond (is_signed w) (whole_of w / 2) 0

abbrev pub highest_of : Width → ℕ
highest_of w = whole_of w - lowest_of w - 1

-- the bytes hold a number
unfoldable pub holds : Width → ℤ → Bool
holds w z = le_z (neg_ℤ (pos (lowest_of w))) z && le_z z (pos (highest_of w))

-- ---- the numbers of a request

-- its name as it is typed; how many decimals one unit has; its bytes
pub record Number : Type 0 where
  pub name : String
  pub decimals : ℕ
  pub width : Width

-- numbers that follow a byte of kind
pub record Record : Type 0 where
  pub kind : ℕ
  pub numbers : List Number

abbrev number : Width → String → ℕ → Number
number w s d = record { name = s; decimals = d; width = w }

-- "Lengths: 1 unit is 10^-8 of the Earth's equatorial radius. Sines, cosines, tangents: 10^-8."
abbrev length8 : String → Number
length8 s = number W.Signed4 s 8

-- "Angles: 10^-6 degree."
abbrev angle : String → Number
angle s = number W.Signed4 s 6

-- coefficients are per hour, in the unit of their quantity
abbrev x : List Number
x = length8 "x0" ∷ length8 "x1" ∷ length8 "x2" ∷ length8 "x3" ∷ []

abbrev y : List Number
y = length8 "y0" ∷ length8 "y1" ∷ length8 "y2" ∷ length8 "y3" ∷ []

abbrev mu : List Number
mu = angle "mu0" ∷ angle "mu1" ∷ angle "mu2" ∷ []

-- "kind 02 and 22 signed 4-byte numbers"
abbrev pub elements : Record
elements =
    record {
      kind = 0x02;
      numbers =
          x ++ y ++ angle "d0" ∷ angle "d1" ∷ angle "d2"
          ∷ length8 "l10" ∷ length8 "l11" ∷ length8 "l12"
          ∷ length8 "l20" ∷ length8 "l21" ∷ length8 "l22"
          ∷ mu ++ length8 "tan f1" ∷ length8 "tan f2" ∷ [];
    }

-- Document 02, wish 7: "The elements are x, y, d0 and μ, twelve numbers, places 0 to 11"; "L a lunar radius given with
-- the request". DECISIONS: "kind 05 with the 12 elements and the radius (signed, 4 bytes each), then kind 03 and kind
-- 04 as in an eclipse's: 79 bytes"
abbrev pub star_elements : Record
star_elements = record { kind = 0x05; numbers = x ++ y ++ angle "d0" ∷ mu ++ length8 "radius" ∷ [] }

-- "kind 03 and number (unsigned, 2 bytes), latitude, longitude, height (signed, 4 each)"; a height is in metres.
-- Document 02, wish 1: "ΔT in hundredths of a second"; "the station record in the program's input grows by 4 bytes at
-- its end, signed"
abbrev station : Record
station =
    record {
      kind = 0x03;
      numbers =
          number W.Unsigned2 "station" 0 ∷ angle "latitude" ∷ angle "longitude" ∷ number W.Signed4 "height" 0
          ∷ number W.Signed4 "delta t" 2 ∷ [];
    }

-- "kind 04 and first, last (signed, 2 each)"; "Time: whole seconds". Document 02, wish 9: "a guard of 16 to 1,000, two
-- bytes"; "the program's kind 04 ends with it"
abbrev window : Record
window = record { kind = 0x04; numbers = number W.Signed2 "first" 0 ∷ number W.Signed2 "last" 0 ∷ number W.Unsigned2 "guard" 0 ∷ [] }

-- in both requests
abbrev pub alike : List Record
alike = station ∷ window ∷ []

-- "numbers big-endian: kind 02 ..; kind 03 ..; kind 04 .."; with ΔT (document 02, wish 1) and the guard (wish 9)
-- exactly 115 bytes
abbrev pub layout_of : Shape → List Record
layout_of S.Eclipse = elements ∷ alike
layout_of S.Star = star_elements ∷ alike

-- ---- of any layout

-- all its numbers, in order
abbrev pub numbers_of : List Record → List Number
numbers_of [] = []
numbers_of (r ∷ rs) = r.numbers ++ numbers_of rs

-- how many a request has
abbrev pub countOf : Shape → ℕ
countOf s = length (numbers_of (layout_of s))

-- ---- an eclipse's

abbrev pub layout : List Record
layout = layout_of S.Eclipse

abbrev pub count : ℕ
count = countOf S.Eclipse
