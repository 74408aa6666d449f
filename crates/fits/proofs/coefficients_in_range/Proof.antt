-- `fits::coefficients_in_range` meets its contract: the coefficients are searched against the two tables.
use mathlib.Core.Path.{◌≡◌, refl, ap, ◌∙◌}
use mathlib.Core.List.{List, [], ◌∷◌}
use native.Mathlib.Omega.{arith}
use borrow.Author.Rules.{rules}
use lib.IntN.{ℤ, pos, neg_ℤ}
use lib.ListN.{length}
use Rattle.rounding.specs.Limits.{first_out_of_range, rows}
use Rattle.elements.specs.Elements.{cubic_from}
use Rattle.fits.specs.Fits.{coefficient_ranges}
use Rattle.fits.proofs.coefficients_in_range.Statement.{statement}
use Rattle.fits.proofs.coefficients_in_range.Tie as tie

abbrev lows : List ℤ
lows = neg_ℤ (pos 200000000) ∷ neg_ℤ (pos 100000000) ∷ neg_ℤ (pos 100000) ∷ neg_ℤ (pos 10000) ∷ []

abbrev highs : List ℤ
highs = pos 200000000 ∷ pos 100000000 ∷ pos 100000 ∷ pos 10000 ∷ []

-- four numbers and their ranges are the rows
four-rows : (cs : List ℤ) → length cs ≡ 4 → rows cs lows highs ≡ coefficient_ranges (cubic_from cs 0)
unfolding coefficient_ranges
four-rows (a ∷ b ∷ c ∷ d ∷ []) e = refl
four-rows [] e = absurd (omega arith)
four-rows (a ∷ []) e = absurd (omega arith)
four-rows (a ∷ b ∷ []) e = absurd (omega arith)
four-rows (a ∷ b ∷ c ∷ []) e = absurd (omega arith)
four-rows (a ∷ b ∷ c ∷ d ∷ x ∷ xs) e = absurd (omega arith)

returns : tie.Need-returns
returns c =
    let start = c.before.before.before in
    c.first_out_of_range.ensures ∙ ap (first_out_of_range 0) (four-rows start.args.coefficients.now start.requires)

pub coefficients_in_range_spec : {M : Type 1} → statement M
coefficients_in_range_spec =
    tie.close
    (tie.spec (λ c. search rules) (λ c. search rules) (λ c κs. search rules) returns)
