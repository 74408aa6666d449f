-- `binary64::is_finite` meets its contract: a NaN differs from itself, and an infinity has the exponent field 2047.
use mathlib.Core.Path.{sym, ap, subst}
use lib.Dec.{T}
use lib.Ieee.{binary64, fits}
use lib.Ieee.Scale.{finite}
use Rattle.binary64.proofs.laws.ReadingLaws.{is-nan, no_nan, finite-fields}
use Rattle.binary64.proofs.is_finite.Statement.{statement}
use Rattle.binary64.proofs.is_finite.Tie as tie

held : (c : tie.Start) → T (fits binary64 c.args.x)
held c = subst T (sym c.well_formed.0.1) tt

returns : tie.Need-returns-then-x
returns c = sym (ap finite (is-nan c.args.x c.if-x.true))

returns-2 : tie.Need-returns
returns-2 c =
    let t = c.before in
    sym (finite-fields t.args.x (held t))

pub is_finite_spec : {M : Type 1} → statement M
is_finite_spec = tie.close (tie.spec returns (λ c. no_nan c.args.x c.if-x.false) returns-2)
