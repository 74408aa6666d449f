-- `besselian_rows::rows::turned` meets its contract.
use mathlib.Core.Path.{ap, ◌∙◌}
use mathlib.Core.List.{[], ◌∷◌}
use lib.Dec.{lit≤}
use lib.IntN.{ℤ, pos}
use lib.Signed.{le_z_yes}
use Rattle.rounding.specs.Near.{near}
use Rattle.rounding.specs.laws.Code.{Code, arg, add, mul, Within, whole, ends, ◌▹◌, fits, runs, within, read_result}
use Rattle.besselian_rows.proofs.rows.turned.Statement.{statement}
use Rattle.besselian_rows.proofs.rows.turned.Tie as tie

bounds : (c : tie.Start) → Within (whole c.args.a ∷ whole c.args.s ∷ whole c.args.b ∷ whole c.args.c ∷ [])
    (6500000000 ∷ 100000000 ∷ 13000000000 ∷ 100000000 ∷ [])
bounds c = c.requires.0 ▹ c.requires.1 ▹ c.requires.2 ▹ c.requires.3 ▹ ends

abbrev W : Code
W = add (mul (arg 0) (arg 1)) (mul (arg 2) (arg 3))

near-requires : tie.Need-near-requires
near-requires c κs = (within (bounds c) W 4000000000000000000 tt, lit≤ tt, le_z_yes tt)

returns : tie.Need-returns
returns c = read_result c.near.result c.near.type_inv ∙ c.near.ensures ∙ ap (λ (z : ℤ). near z (pos 100000000)) (runs (bounds c.before) W tt)

pub turned_spec : {M : Type 1} → statement M
turned_spec = tie.close (tie.spec (λ c. fits (bounds c) (mul (arg 0) (arg 1)) tt) (λ c. fits (bounds c) (mul (arg 2) (arg 3)) tt) (λ c. fits (bounds c) W tt) near-requires returns)
