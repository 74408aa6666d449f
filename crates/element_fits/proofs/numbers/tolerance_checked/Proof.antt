-- `element_fits::numbers::tolerance_checked` meets its contract: one number is compared with its range.
use mathlib.Core.Path.{ap}
use mathlib.Core.List.{[], ◌∷◌}
use lib.IntN.{ℤ, pos}
use mir.Syntax.{w64}
use mir.ValLaws.{to_z-of_z}
use borrow.Author.Rules.{rules}
use Rattle.sheet_types.specs.laws.RefusalLaws.{ranges_listed}
use Rattle.element_fits.specs.Numbers.{tolerance_ranges}
use Rattle.element_fits.proofs.numbers.tolerance_checked.Statement.{statement}
use Rattle.element_fits.proofs.numbers.tolerance_checked.Tie as tie

returns : tie.Need-returns
unfolding tolerance_ranges
returns c =
    let b = c.before.before.before.before in
    ranges_listed 18 (pos 0 ∷ []) (pos 1000 ∷ []) c.of_ranges.ensures
    (ap (λ (z : ℤ). z ∷ []) (to_z-of_z w64 b.args.tolerance b.ranges.tolerance))

pub tolerance_checked_spec : {M : Type 1} → statement M
tolerance_checked_spec = tie.close (tie.spec (λ c. search rules) (λ c. search rules) (λ c. search rules) (λ c κs. search rules) returns)
