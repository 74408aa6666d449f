-- What is asked of a fit: the conditions under which it is accepted. Sentences are of document 02, wish 14.
use Rattle.std.specs.Prelude.{◌≡◌, List, ℕ, ◌≤◌, ◌<◌, ℤ, pos, nat_abs, ◌-ℤ◌, ◌≤ℤ◌, length, get_or, Ok}
use Rattle.elements.specs.Polynomial.{cubic_at}
use Rattle.elements.specs.Elements.{cubic_from}
use Rattle.elements.specs.Sizes.{CubicSizes}
use Rattle.fits.specs.Fits.{second, fit_of}

-- "a cubic", "its coefficients are in the ranges of x", "seven hourly values", "The tabulated values are ±10^9."
pub record InRanges (cs ts : List ℤ) : Type 0 where
  pub four : length cs ≡ 4
  pub of_x : CubicSizes (cubic_from cs 0)
  pub seven : length ts ≡ 7
  pub tabulated : (i : ℕ) → i < 7 → nat_abs (get_or ts i (pos 0)) ≤ 1000000000

pub record Acceptable (cs ts : List ℤ) (tolerance : ℤ) : Type 0 where
  pub in-ranges : InRanges cs ts
  -- "a stated tolerance, 0 to 1,000 units"
  pub stated : (pos 0 ≤ℤ tolerance) × (tolerance ≤ℤ pos 1000)
  -- "its value by the rule of document 01 differs from the tabulated one by at most a stated tolerance .. at each of
  -- the seven hours"
  pub close : (i : ℕ) → i < 7 → pos (nat_abs (cubic_at (cubic_from cs 0) (second i) -ℤ get_or ts i (pos 0))) ≤ℤ tolerance

-- "Accept a proposed fit exactly if": the law `accepted_exactly_if` of `Exactly`
abbrev pub AcceptedExactlyIf : Type 0
AcceptedExactlyIf =
    (cs ts : List ℤ) (tolerance : ℤ)
    → (fit_of cs ts tolerance ≡ Ok tt → Acceptable cs ts tolerance) × (Acceptable cs ts tolerance → fit_of cs ts tolerance ≡ Ok tt)
