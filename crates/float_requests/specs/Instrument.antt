-- Document 02, wish 5: the 22 elements and a longitude as doubles, in whole units. Definitions only. Of one double:
-- doubles, Doubles.
use Rattle.std.specs.Prelude.{cond, List, [], ◌∷◌, ℕ, suc, ℤ, get_or, Float, Result, Ok, Err}
use Rattle.std.specs.Float.{nan}
use Rattle.std.specs.Float.Ieee.Scale.{finite}
use Rattle.sheet_types.specs.declared.refusals.Refusal.{Refusal}
use Rattle.sheet_types.specs.Refusals.{refusal, andThen}
use Rattle.elements.specs.declared.Elements.{Elements}
use Rattle.elements.specs.Elements.{elements_of}
use Rattle.binary64.specs.declared.Longitude.{Longitude}
use Rattle.binary64.specs.Doubles.{units_of, double_in}
use Rattle.float_requests.specs.declared.instrument.ElementDoubles.{ElementDoubles}

-- "a full set of elements comes as 22 doubles": in document 01's order
abbrev pub fields : ElementDoubles → List Float
fields d =
    d.x0 ∷ d.x1 ∷ d.x2 ∷ d.x3
    ∷ d.y0 ∷ d.y1 ∷ d.y2 ∷ d.y3
    ∷ d.d0 ∷ d.d1 ∷ d.d2
    ∷ d.l10 ∷ d.l11 ∷ d.l12
    ∷ d.l20 ∷ d.l21 ∷ d.l22
    ∷ d.mu0 ∷ d.mu1 ∷ d.mu2
    ∷ d.tanf1 ∷ d.tanf2
    ∷ []

-- those that a list begins with
abbrev pub double : List Float → ℕ → Float
double xs k = get_or xs k nan

abbrev pub doubles_of : List Float → ElementDoubles
doubles_of xs =
    record {
      x0 = double xs 0;
      x1 = double xs 1;
      x2 = double xs 2;
      x3 = double xs 3;
      y0 = double xs 4;
      y1 = double xs 5;
      y2 = double xs 6;
      y3 = double xs 7;
      d0 = double xs 8;
      d1 = double xs 9;
      d2 = double xs 10;
      l10 = double xs 11;
      l11 = double xs 12;
      l12 = double xs 13;
      l20 = double xs 14;
      l21 = double xs 15;
      l22 = double xs 16;
      mu0 = double xs 17;
      mu1 = double xs 18;
      mu2 = double xs 19;
      tanf1 = double xs 20;
      tanf2 = double xs 21;
    }

-- "12 for a double that is not finite, with the first such field": from place i on
unfoldable pub first_not_finite : ℕ → List Float → Result Unit Refusal
first_not_finite i [] = Ok tt
first_not_finite i (x ∷ xs) = cond (finite x) (first_not_finite (suc i) xs) (Err (refusal 12 i))

-- "(longitude 22)"
abbrev pub finite_checked : ElementDoubles → Longitude → Result Unit Refusal
finite_checked d l = andThen (first_not_finite 0 (fields d)) (first_not_finite 22 (double_in l ∷ []))

-- units to one: "1,000,000, or .. 10^8 for lengths and tangents". Of x, y, d, l1, l2, μ, tan f, and of a longitude in
-- degrees
abbrev pub scales : List ℕ
scales =
    100_000_000 ∷ 100_000_000 ∷ 100_000_000 ∷ 100_000_000
    ∷ 100_000_000 ∷ 100_000_000 ∷ 100_000_000 ∷ 100_000_000
    ∷ 1_000_000 ∷ 1_000_000 ∷ 1_000_000
    ∷ 100_000_000 ∷ 100_000_000 ∷ 100_000_000
    ∷ 100_000_000 ∷ 100_000_000 ∷ 100_000_000
    ∷ 1_000_000 ∷ 1_000_000 ∷ 1_000_000
    ∷ 100_000_000 ∷ 100_000_000
    ∷ 1_000_000
    ∷ []

-- each in its units
abbrev pub units_in : List ℕ → List Float → List ℤ
units_in (s ∷ ss) (x ∷ xs) = units_of s x ∷ units_in ss xs
units_in (s ∷ ss) [] = []
units_in [] xs = []

unfoldable pub elements_in : ElementDoubles → Elements
elements_in d = elements_of (units_in scales (fields d))
