-- `besselian_rows::squares::lower` meets its contract.
use mathlib.Core.Path.{ap}
use mathlib.Core.List.{[], ◌∷◌}
use native.Mathlib.Omega.{arith}
use lib.IntN.{pos, nat_abs}
use lib.Signed.{lt_z_yes}
use Rattle.besselian_rows.specs.laws.WideLaws.{rem_size}
use Rattle.rounding.specs.laws.Code.{arg, lit, quo, rem, Within, whole, ends, ◌▹◌, fits, runs, above}
use Rattle.besselian_rows.proofs.squares.lower.Statement.{statement}
use Rattle.besselian_rows.proofs.squares.lower.Tie as tie

bounds : (c : tie.Start) → Within (whole c.args.n ∷ []) (2406500000000 ∷ [])
bounds c = c.requires ▹ ends

rem-result : tie.Need-nonzero_rem-result
rem-result c = (above (bounds c) (lit (pos 1000000)) tt (lt_z_yes tt), fits (bounds c) (quo (arg 0) (lit (pos 1000000))) tt)

returns : tie.Need-returns
returns c =
    let e = runs (bounds c) (rem (arg 0) (lit (pos 1000000))) tt in
    record { value = e; size = omega (arith, ap nat_abs e, rem_size c.args.n) }

pub lower_spec : {M : Type 1} → statement M
lower_spec = tie.close (tie.spec rem-result returns)
