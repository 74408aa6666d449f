-- From the caller's numbers to the answer, and what the caller's buffers hold afterwards. Definitions only.
use Rattle.std.specs.Prelude.{cond, ◌&&◌, List, [], ◌∷◌, ◌++◌, ℕ, leb, eqb, ℤ, pos, nat_abs, length, drop, Result, Ok, Err}
use Rattle.element_fits.specs.declared.Fits.{Fits}
use Rattle.sheet_types.specs.declared.refusals.Refusal.{Refusal}
use Rattle.rounding.specs.Limits.{Row, row, rows, first_out_of_range}
use Rattle.sheet_types.specs.Refusals.{refusal, of_limits, andThen}
use Rattle.elements.specs.declared.Cubic.{Cubic}
use Rattle.elements.specs.declared.Quadratic.{Quadratic}
use Rattle.elements.specs.Elements.{fields}
use Rattle.requests.specs.Admission.{room_checked}
use Rattle.besselian_rows.specs.declared.besselian.Radii.{Radii}
use Rattle.besselian_rows.specs.Tables.{number, rowAt, first_refused}
use Rattle.element_fits.specs.declared.least_squares.Hourly.{Hourly}
use Rattle.element_fits.specs.declared.Rows.{Rows}
use Rattle.element_fits.specs.declared.Misfits.{Misfits}
use Rattle.element_fits.specs.FromTables.{fitting_of}
use Rattle.element_fits.specs.Answers.{judged}

-- ---- what the numbers are

-- "42 numbers (rows as for `ukhtvaresh_from_tables`)"
unfoldable pub rows_of : List ℤ → Rows
rows_of n =
    record { r0 = rowAt n 0; r1 = rowAt n 1; r2 = rowAt n 2; r3 = rowAt n 3; r4 = rowAt n 4; r5 = rowAt n 5; r6 = rowAt n 6 }

-- "seven values of Greenwich apparent sidereal time in 10^-6 degree"
unfoldable pub hourly_of : List ℤ → Hourly
hourly_of n =
    record {
      v0 = number n 0;
      v1 = number n 1;
      v2 = number n 2;
      v3 = number n 3;
      v4 = number n 4;
      v5 = number n 5;
      v6 = number n 6;
    }

-- "three radii in units (the Sun's ..; the Moon's for the penumbra and for the central cone ..)"
unfoldable pub radii_of : List ℤ → Radii
radii_of n = record { sun = nat_abs (number n 0); penumbra = nat_abs (number n 1); central = nat_abs (number n 2) }

-- ---- what is refused

-- "a tolerance, 0 to 1,000"
unfoldable pub tolerance_ranges : ℤ → List Row
tolerance_ranges tolerance = row tolerance (pos 0) (pos 1000) ∷ []

-- the radii, then the sidereal angles
unfoldable pub numbers_of : (sidereal radii : List ℤ) → List ℤ
numbers_of g k =
    number k 0 ∷ number k 1 ∷ number k 2 ∷ number g 0 ∷ number g 1 ∷ number g 2 ∷ number g 3 ∷ number g 4 ∷ number g 5 ∷ number g 6 ∷ []

-- "the Sun's, 10,890,000,000 to 10,930,000,000; the Moon's .., 27,200,000 to 27,300,000 each", "0 to 359,999,999"
abbrev lows : List ℤ
lows = pos 10890000000 ∷ pos 27200000 ∷ pos 27200000 ∷ pos 0 ∷ pos 0 ∷ pos 0 ∷ pos 0 ∷ pos 0 ∷ pos 0 ∷ pos 0 ∷ []

abbrev highs : List ℤ
highs =
    pos 10930000000 ∷ pos 27300000 ∷ pos 27300000 ∷ pos 359999999 ∷ pos 359999999 ∷ pos 359999999 ∷ pos 359999999 ∷ pos 359999999
    ∷ pos 359999999 ∷ pos 359999999 ∷ []

unfoldable pub given_ranges : (sidereal radii : List ℤ) → List Row
given_ranges g k = rows (numbers_of g k) lows highs

-- "11 with the row"
abbrev pub of_rows : Result Unit ℕ → Result Unit Refusal
of_rows (Ok tt) = Ok tt
of_rows (Err i) = Err (refusal 11 i)

-- "10 for other lengths than 42, 7, 3; 18 with place 0 for the tolerance; 21 (ours) with place 0 to 2 for a radius, 3 to
-- 9 for a sidereal angle; 11 with the row"
unfoldable pub given_checked : (rows sidereal radii : List ℤ) (tolerance : ℤ) → Result Unit Refusal
given_checked n g k tolerance =
    cond (eqb (length n) 42 && (eqb (length g) 7 && eqb (length k) 3))
    (andThen (of_limits 18 (first_out_of_range 0 (tolerance_ranges tolerance)))
    (andThen (of_limits 21 (first_out_of_range 0 (given_ranges g k))) (of_rows (first_refused n 0 7)))) (Err (refusal 10 0))

-- "4 with place 901"
unfoldable pub admitted : (rows sidereal radii : List ℤ) (tolerance : ℤ) (sines : List ℕ) → Result Unit Refusal
admitted n g k tolerance sines = andThen (given_checked n g k tolerance) (room_checked sines)

-- ---- the answer

-- 2 and 17
unfoldable pub fits_asked : (rows sidereal radii : List ℤ) (tolerance : ℤ) → Result Fits Refusal
fits_asked n g k tolerance = judged (fitting_of (radii_of k) (rows_of n) (hourly_of g)) (nat_abs tolerance)

-- "4 with place 22, then 4 with place 6"
abbrev pub in_rooms : (room second : ℕ) → Result Fits Refusal → Result Fits Refusal
in_rooms room second (Ok f) = cond (leb 22 room) (cond (leb 6 second) (Ok f) (Err (refusal 4 6))) (Err (refusal 4 22))
in_rooms room second (Err r) = Err r

abbrev pub of_admitted : Result Unit Refusal → Result Fits Refusal → Result Fits Refusal
of_admitted (Ok tt) next = next
of_admitted (Err r) next = Err r

-- buffer and second are the lengths of the buffers for the elements and for the misfits
unfoldable pub answer_to : (rows sidereal radii : List ℤ) (tolerance : ℤ) (sines : List ℕ) (room second : ℕ) → Result Fits Refusal
answer_to n g k tolerance sines room second = of_admitted (admitted n g k tolerance sines) (in_rooms room second (fits_asked n g k tolerance))

-- ---- the buffers: "22 elements in document 01's order; misfits: .. x, y, d, l1, l2, μ, in this order (6 numbers)". That
-- for table S holds `sines_after (admitted ..)`: it "is filled from the check of 2 on"

abbrev pub six_of : Misfits → List ℤ
six_of m = m.x ∷ m.y ∷ m.d ∷ m.l1 ∷ m.l2 ∷ m.mu ∷ []

abbrev pub four_of : Cubic → List ℤ
four_of c = c.c0 ∷ c.c1 ∷ c.c2 ∷ c.c3 ∷ []

abbrev pub three_of : Quadratic → List ℤ
three_of q = q.c0 ∷ q.c1 ∷ q.c2 ∷ []

abbrev pub elements_after : Result Fits Refusal → List ℤ → List ℤ
elements_after (Ok f) old = fields f.elements ++ drop 22 old
elements_after (Err r) old = old

abbrev pub misfits_after : Result Fits Refusal → List ℤ → List ℤ
misfits_after (Ok f) old = six_of f.misfits ++ drop 6 old
misfits_after (Err r) old = old
