-- `fits::hours_in_range` meets its contract: the differences are searched against minus the tolerance and the
-- tolerance.
use mathlib.Core.Path.{◌∙◌}
use mathlib.Core.List.{[], ◌∷◌}
use borrow.Author.Rules.{rules}
use lib.IntN.{pos, neg_ℤ, +ℤ_idl}
use Rattle.rounding.specs.laws.Code.{Code, arg, lit, sub, Within, whole, ends, ◌▹◌, fits, runs, read_back}
use Rattle.fits.specs.Fits.{hour_ranges}
use Rattle.fits.proofs.hours_in_range.Statement.{statement}
use Rattle.fits.proofs.hours_in_range.Tie as tie

bounds : (c : tie.Start) → Within (whole c.args.tolerance ∷ []) (1000 ∷ [])
bounds c = c.requires.1 ▹ ends

abbrev opposite : Code
opposite = sub (lit (pos 0)) (arg 0)

returns : tie.Need-returns
unfolding hour_ranges
returns c =
    let start = c.before.before.before.before.before in
    let t = start.args.tolerance in
    c.first_out_of_range.ensures
    ∙ rw (c.differences-values.ensures, runs (bounds start) opposite tt, read_back t start.requires.1 tt, +ℤ_idl (neg_ℤ t))

pub hours_in_range_spec : {M : Type 1} → statement M
hours_in_range_spec =
    tie.close
    (tie.spec (λ c κs. search rules) (λ c. fits (bounds c.before) opposite tt) (λ c. search rules)
    (λ c. search rules) (λ c. search rules) (λ c κs. search rules) returns)
