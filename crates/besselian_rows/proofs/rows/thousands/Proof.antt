-- `besselian_rows::rows::thousands` meets its contract.
use mathlib.Core.Path.{ap, ◌∙◌}
use mathlib.Core.List.{[], ◌∷◌}
use Prim.Native.Nat.{◌≤◌, ◌*◌}
use native.Mathlib.Omega.{arith}
use lib.Dec.{lit≤}
use lib.IntN.{ℤ, pos, nat_abs, ◌-ℤ◌}
use lib.Signed.{le_z_yes}
use Rattle.rounding.specs.laws.Order.{nat_abs_minus}
use Rattle.rounding.specs.Near.{near}
use Rattle.rounding.proofs.laws.NearLaws.{near-size}
use Rattle.rounding.specs.laws.Code.{Code, arg, sub, Within, whole, ends, ◌▹◌, fits, runs, within, read_back, read-size}
use Rattle.besselian_rows.proofs.rows.thousands.Statement.{statement}
use Rattle.besselian_rows.proofs.rows.thousands.Tie as tie

bounds : (c : tie.Start) → Within (whole c.args.a ∷ whole c.args.b ∷ []) (2400000000000 ∷ 6500000000 ∷ [])
bounds c = c.requires.0 ▹ c.requires.1 ▹ ends

abbrev D : Code
D = sub (arg 0) (arg 1)

near-requires : tie.Need-near-requires
near-requires c κs = (within (bounds c) D 4000000000000000000 tt, lit≤ tt, le_z_yes tt)

returns : tie.Need-returns
returns c =
    let b = c.before in
    let e = c.near.ensures ∙ ap (λ (z : ℤ). near z (pos 1000)) (runs (bounds b) D tt) in
    let l : nat_abs (b.args.a -ℤ b.args.b) ≤ 2406500000 * 1000 = omega (arith, nat_abs_minus b.args.a b.args.b, b.requires.0, b.requires.1) in
    let h : nat_abs c.near.result ≤ 2406500000 = omega (arith, ap nat_abs e, near-size (b.args.a -ℤ b.args.b) (pos 1000) 2406500000 (le_z_yes tt) l) in
    record { value = read_back c.near.result h tt ∙ e; size = read-size c.near.result 2406500000 h tt }

pub thousands_spec : {M : Type 1} → statement M
thousands_spec = tie.close (tie.spec (λ c. fits (bounds c) D tt) near-requires returns)
