-- The casts lose nothing, and `reads_back` says how the quotient is read.
use Rattle.std.proofs.Common.{ℤ, arith, ap, sym, subst}
use lib.Ieee.{Float}
use mir.Syntax.{w64}
use mir.ValLaws.{to_z-of_z}
use Rattle.binary64.specs.Doubles.{double_of, ReadsBack}
use Rattle.binary64.proofs.laws.ReadBack.{reads_back}
use Rattle.binary64.proofs.double_of.Goals as goal

pub returns-clause-back : goal.returns-clause-back
returns-clause-back c =
    let a = c.args in
    let made = ap (λ (z : ℤ). double_of a.scale z) (to_z-of_z w64 a.unit c.ranges.unit) in
    subst (λ (x : Float). ReadsBack a.scale a.unit x) (sym made) (reads_back a.scale a.unit c.requires.1 (omega arith) c.requires.0)
