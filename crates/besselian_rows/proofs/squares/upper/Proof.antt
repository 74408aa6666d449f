-- `besselian_rows::squares::upper` meets its contract.
use mathlib.Core.Path.{ap}
use mathlib.Core.List.{[], ◌∷◌}
use native.Mathlib.Omega.{arith}
use lib.IntN.{pos, nat_abs}
use lib.Signed.{lt_z_yes}
use Rattle.rounding.specs.laws.Order.{nat_abs_quot}
use Rattle.rounding.specs.laws.Code.{Code, arg, lit, quo, Within, whole, ends, ◌▹◌, fits, runs, above}
use Rattle.besselian_rows.proofs.squares.upper.Statement.{statement}
use Rattle.besselian_rows.proofs.squares.upper.Tie as tie

bounds : (c : tie.Start) → Within (whole c.args.n ∷ []) (2406500000000 ∷ [])
bounds c = c.requires ▹ ends

abbrev Up : Code
Up = quo (arg 0) (lit (pos 1000000))

div-result : tie.Need-nonzero_div-result
div-result c = (above (bounds c) (lit (pos 1000000)) tt (lt_z_yes tt), fits (bounds c) Up tt)

returns : tie.Need-returns
returns c =
    let e = runs (bounds c) Up tt in
    record { value = e; size = omega (arith, ap nat_abs e, nat_abs_quot c.args.n (pos 1000000), c.requires) }

pub upper_spec : {M : Type 1} → statement M
upper_spec = tie.close (tie.spec div-result returns)
