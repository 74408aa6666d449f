-- `besselian_rows::rows::squared` meets its contract.
use mathlib.Core.Path.{ap, ◌∙◌}
use mathlib.Core.List.{[], ◌∷◌}
use lib.IntN.{nat_abs}
use Rattle.rounding.specs.laws.Order.{nat_abs_product, square_nonneg}
use Rattle.rounding.specs.laws.Code.{Code, arg, mul, Within, whole, ends, ◌▹◌, fits, runs, unsigned}
use Rattle.besselian_rows.proofs.rows.squared.Statement.{statement}
use Rattle.besselian_rows.proofs.rows.squared.Tie as tie

bounds : (c : tie.Start) → Within (whole c.args.g ∷ []) (2406500000 ∷ [])
bounds c = c.requires ▹ ends

abbrev GG : Code
GG = mul (arg 0) (arg 0)

cast-result : tie.Need-overflow_cast-result
cast-result c = unsigned (bounds c) GG tt (square_nonneg c.args.g)

returns : tie.Need-returns
returns c = ap nat_abs (runs (bounds c) GG tt) ∙ nat_abs_product c.args.g c.args.g

pub squared_spec : {M : Type 1} → statement M
squared_spec = tie.close (tie.spec (λ c. fits (bounds c) GG tt) cast-result returns)
