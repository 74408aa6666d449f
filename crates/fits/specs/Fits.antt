-- Fits from the spreadsheet: the cubic, the seven tabulated values, and what is refused. Sentences are of document 02,
-- wish 14, but for those named.
use Rattle.std.specs.Prelude.{cond, ◌&&◌, List, [], ◌∷◌, map, ℕ, eqb, ℤ, pos, neg_ℤ, ◌-ℤ◌, ◌*ℤ◌, length, get_or, Option, Result, None, Some, Err, Ok}
use Rattle.rounding.specs.Limits.{Row, row, ◌±◌, first_out_of_range}
use Rattle.rounding.specs.Units.{hour}
use Rattle.sheet_types.specs.declared.refusals.Refusal.{Refusal}
use Rattle.sheet_types.specs.Refusals.{refusal}
use Rattle.elements.specs.declared.Cubic.{Cubic}
use Rattle.elements.specs.Elements.{cubic_from}
use Rattle.elements.specs.Polynomial.{cubic_at}

-- "a stated tolerance, 0 to 1,000 units", "The tabulated values are ±10^9."
unfoldable pub given_ranges : ℤ → List ℤ → List Row
given_ranges tolerance ts = row tolerance (pos 0) (pos 1000) ∷ map (λ t. t ± 1000000000) ts

-- "its coefficients are in the ranges of x", document 01: "x0, x1, x2, x3 | ±2·10^8, ±10^8, ±10^5, ±10^4"
unfoldable pub coefficient_ranges : Cubic → List Row
coefficient_ranges c = (c.c0 ± 200000000) ∷ (c.c1 ± 100000000) ∷ (c.c2 ± 100000) ∷ (c.c3 ± 10000) ∷ []

-- "seven hourly values, -3 to 3": the second of hour i, counted from 0
abbrev pub second : ℕ → ℤ
second i = hour *ℤ (pos i -ℤ pos 3)

-- how far "its value by the rule of document 01 differs from the tabulated one"
unfoldable pub difference : Cubic → List ℤ → ℕ → ℤ
difference c ts i = cubic_at c (second i) -ℤ get_or ts i (pos 0)

-- "at each of the seven hours"
abbrev pub hours : List ℕ
hours = 0 ∷ 1 ∷ 2 ∷ 3 ∷ 4 ∷ 5 ∷ 6 ∷ []

abbrev pub differences : Cubic → List ℤ → List ℤ
differences c ts = map (difference c ts) hours

-- "by at most a stated tolerance"
unfoldable pub hour_ranges : Cubic → List ℤ → ℤ → List Row
hour_ranges c ts tolerance = map (λ d. row d (neg_ℤ tolerance) tolerance) (differences c ts)

-- the first that is out of its range is refused; else what comes next decides
abbrev pub unless : Option ℕ → (ℕ → Refusal) → Result Unit Refusal → Result Unit Refusal
unless None r next = next
unless (Some i) r next = Err (r i)

-- "Refusals: 17 with the first bad hour, 0 to 6, after 2 with place 0 to 3; 18 before 2, place 0 for the tolerance, 1
-- to 7 for the first tabulated value out of range."
unfoldable pub judged : Cubic → List ℤ → ℤ → Result Unit Refusal
judged c ts tolerance =
    unless (first_out_of_range 0 (given_ranges tolerance ts)) (refusal 18)
    (unless (first_out_of_range 0 (coefficient_ranges c)) (refusal 2)
    (unless (first_out_of_range 0 (hour_ranges c ts tolerance)) (refusal 17) (Ok tt)))

-- four coefficients and seven tabulated values are judged; of other lists document 01 has "10 | program input not of
-- the shape below | 0"
unfoldable pub fit_of : List ℤ → List ℤ → ℤ → Result Unit Refusal
fit_of cs ts tolerance = cond (eqb (length cs) 4 && eqb (length ts) 7) (judged (cubic_from cs 0) ts tolerance) (Err (refusal 10 0))
