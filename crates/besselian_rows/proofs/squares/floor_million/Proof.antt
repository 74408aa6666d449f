-- `besselian_rows::squares::floor_million` meets its contract.
use mathlib.Core.Path.{ap, ◌∙◌}
use mathlib.Core.List.{[], ◌∷◌}
use native.Mathlib.Omega.{arith}
use lib.IntN.{pos, nat_abs}
use lib.Signed.{lt_z_yes}
use Rattle.rounding.specs.laws.Floor.{floor-same, floor-less}
use Rattle.besselian_rows.specs.laws.WideLaws.{floor_size}
use Rattle.rounding.specs.laws.Code.{Code, arg, lit, sub, quo, rem, Within, whole, ends, ◌▹◌, fits, runs, above, taken-<, left-<}
use Rattle.besselian_rows.proofs.squares.floor_million.Statement.{statement}
use Rattle.besselian_rows.proofs.squares.floor_million.Tie as tie

bounds : (c : tie.Start) → Within (whole c.args.n ∷ []) (1000000000000000000 ∷ [])
bounds c = c.requires ▹ ends

abbrev Quo : Code
Quo = quo (arg 0) (lit (pos 1000000))

abbrev Rem : Code
Rem = rem (arg 0) (lit (pos 1000000))

div-q : tie.Need-nonzero_div-q
div-q c = (above (bounds c) (lit (pos 1000000)) tt (lt_z_yes tt), fits (bounds c) Quo tt)

rem-if1 : tie.Need-nonzero_rem-n
rem-if1 c = (above (bounds c) (lit (pos 1000000)) tt (lt_z_yes tt), fits (bounds c) Quo tt)

sub-result : tie.Need-overflow_sub-result
sub-result c = fits (bounds c.before) (sub Quo (lit (pos 1))) tt

returns : tie.Need-returns-then-n-lt0
returns c =
    let b = c.before in
    let e = runs (bounds b) (sub Quo (lit (pos 1))) tt ∙ floor-less b.args.n (pos 1000000) (lt_z_yes tt)
    (taken-< (bounds b) Rem (lit (pos 0)) tt c.if-n-lt0.true) in
    record { value = e; size = omega (arith, ap nat_abs e, floor_size b.args.n) }

returns-2 : tie.Need-returns-else-n-lt0
returns-2 c =
    let b = c.before in
    let e = runs (bounds b) Quo tt ∙ floor-same b.args.n (pos 1000000) (lt_z_yes tt) (left-< (bounds b) Rem (lit (pos 0)) tt c.if-n-lt0.false) in
    record { value = e; size = omega (arith, ap nat_abs e, floor_size b.args.n) }

pub floor_million_spec : {M : Type 1} → statement M
floor_million_spec = tie.close (tie.spec div-q rem-if1 sub-result returns returns-2)
