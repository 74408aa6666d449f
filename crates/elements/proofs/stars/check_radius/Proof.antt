-- `elements::stars::check_radius` meets its contract: one number is compared with its range.
use mathlib.Core.Path.{ap}
use mathlib.Core.List.{[], ◌∷◌}
use lib.IntN.{ℤ, pos}
use mir.Syntax.{w64}
use mir.ValLaws.{to_z-of_z}
use borrow.Author.Rules.{rules}
use Rattle.sheet_types.specs.laws.RefusalLaws.{ranges_listed}
use Rattle.elements.specs.Stars.{radius_range_of}
use Rattle.elements.proofs.stars.check_radius.Statement.{statement}
use Rattle.elements.proofs.stars.check_radius.Tie as tie

returns : tie.Need-returns
unfolding radius_range_of
returns c =
    let b = c.before.before.before.before in
    ranges_listed 13 (pos 27200000 ∷ []) (pos 27300000 ∷ []) c.of_ranges.ensures
    (ap (λ (z : ℤ). z ∷ []) (to_z-of_z w64 b.args.radius b.ranges.radius))

pub check_radius_spec : {M : Type 1} → statement M
check_radius_spec =
    tie.close (tie.spec (λ c. search rules) (λ c. search rules) (λ c. search rules) (λ c κs. search rules) returns)
