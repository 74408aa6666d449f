-- `element_fits::turn` meets its contract: the differences fit.
use mathlib.Core.Path.{ap}
use mathlib.Core.List.{[], ◌∷◌}
use native.Mathlib.Omega.{arith}
use lib.IntN.{pos, nat_abs}
use Rattle.rounding.specs.laws.Code.{Code, arg, lit, sub, mul, Within, whole, ends, ◌▹◌, fits, runs, sized}
use Rattle.element_fits.specs.FromTables.{turn}
use Rattle.element_fits.proofs.turn.Statement.{statement}
use Rattle.element_fits.proofs.turn.Tie as tie

bounds : (c : tie.Start) → Within (whole c.args.g ∷ whole c.args.a ∷ whole c.args.hour ∷ []) (360_000_000 ∷ 360_000_000 ∷ 3 ∷ [])
bounds c = c.requires.0 ▹ c.requires.1 ▹ c.requires.2 ▹ ends

abbrev difference : Code
difference = sub (arg 0) (arg 1)

abbrev hours : Code
hours = mul (lit (pos 15_000_000)) (arg 2)

returns : tie.Need-returns
unfolding turn
returns c =
    let e = runs (bounds c) (sub difference hours) tt in
    record { value = e; size = omega (arith, ap nat_abs e, sized (bounds c) (sub difference hours)) }

pub turn_spec : {M : Type 1} → statement M
turn_spec = tie.close (tie.spec (λ c. fits (bounds c) difference tt) (λ c. fits (bounds c) hours tt) (λ c. fits (bounds c) (sub difference hours) tt) returns)
