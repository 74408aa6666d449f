-- `besselian_rows::squares::at_most` meets its contract: the parts of the difference.
use mathlib.Core.Path.{◌∙◌}
use mathlib.Core.List.{[], ◌∷◌}
use Rattle.rounding.specs.laws.Code.{Code, arg, sub, Within, whole, ends, ◌▹◌, fits, runs, within}
use Rattle.besselian_rows.specs.laws.WideLaws.{difference, not_negative-same}
use Rattle.besselian_rows.proofs.squares.at_most.Statement.{statement}
use Rattle.besselian_rows.proofs.squares.at_most.Tie as tie

highs : (c : tie.Start) → Within (whole c.args.b.high ∷ whole c.args.a.high ∷ []) (100000000000000000 ∷ 100000000000000000 ∷ [])
highs c = c.requires.1.high ▹ c.requires.0.high ▹ ends

mids : (c : tie.Start) → Within (whole c.args.b.mid ∷ whole c.args.a.mid ∷ []) (100000000000000000 ∷ 100000000000000000 ∷ [])
mids c = c.requires.1.mid ▹ c.requires.0.mid ▹ ends

lows : (c : tie.Start) → Within (whole c.args.b.low ∷ whole c.args.a.low ∷ []) (100000000000000000 ∷ 100000000000000000 ∷ [])
lows c = c.requires.1.low ▹ c.requires.0.low ▹ ends

abbrev D : Code
D = sub (arg 0) (arg 1)

sub-not-negative : tie.Need-overflow_sub-b
sub-not-negative c = fits (highs c.before.before.before.before) D tt

sub-not-negative-2 : tie.Need-overflow_sub-b-2
sub-not-negative-2 c = fits (mids c.before.before.before.before.before.before.before.before) D tt

sub-not-negative-3 : tie.Need-overflow_sub-b-3
sub-not-negative-3 c = fits (lows c.before.before.before.before.before.before.before.before.before.before.before.before) D tt

not-negative-requires : tie.Need-not_negative-requires
not-negative-requires c κs =
    let s = c.before.before.before.before.before.before.before.before.before.before.before.before in
    (within (highs s) D 200000000000000000 tt, within (mids s) D 200000000000000000 tt, within (lows s) D 200000000000000000 tt)

returns : tie.Need-returns
returns c =
    let s = c.before.before.before.before.before.before.before.before.before.before.before.before.before in
    c.not_negative.ensures ∙ not_negative-same (runs (highs s) D tt) (runs (mids s) D tt) (runs (lows s) D tt) ∙ difference s.args.a s.args.b

pub at_most_spec : {M : Type 1} → statement M
at_most_spec = tie.close (tie.spec sub-not-negative sub-not-negative-2 sub-not-negative-3 not-negative-requires returns)
