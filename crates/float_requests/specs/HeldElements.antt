-- The elements that the code goes on with, where one is too large for 64 bits: refused as the exact ones are, and in
-- their ranges the same.
use Rattle.std.specs.Prelude.{◌≡◌, Option, None, ℕ}
use Rattle.std.proofs.Math.Path.{ap}
use Rattle.std.proofs.Common.{◌∙◌}
use mathlib.Core.List.{List, map}
use Rattle.rounding.specs.Limits.{Row}
use Rattle.rounding.specs.laws.LimitsLaws.{each_in_range}
use Rattle.sheet_types.specs.Refusals.{of_limits}
use Rattle.elements.specs.declared.Elements.{Elements}
use Rattle.elements.specs.Elements.{fields, elements_of, elements_checked, ranges, range_of}
use Rattle.elements.specs.laws.ElementsLaws.{elements_of_fields}
use Rattle.binary64.specs.Doubles.{held}
use Rattle.binary64.specs.laws.HeldLaws.{ranges-held, in-ranges-held}

unfoldable pub held_elements : Elements → Elements
held_elements e = elements_of (map held (fields e))

module _ (e : Elements) where
  range-held : range_of (held_elements e) ≡ range_of e
  unfolding range_of ranges held_elements elements_of
  range-held = ranges-held 0 (ranges e) tt

  pub checked-held : elements_checked (held_elements e) ≡ elements_checked e
  checked-held = ap (λ (l : Option ℕ). of_limits 2 l) range-held

  pub same-held : range_of e ≡ None → held_elements e ≡ e
  unfolding range_of ranges held_elements elements_of
  same-held h =
      ap (λ (rs : List Row). elements_of (map (λ r. r.value) rs)) (in-ranges-held (ranges e) tt (each_in_range 0 (ranges e) h))
      ∙ elements_of_fields e
