-- `year_file::lengths::opens_once` meets its contract: what was found makes up `OpenOnce`.
use Rattle.std.specs.Prelude.{Some}
use mathlib.Core.Path.{sym, ap, ◌∙◌}
use native.Mathlib.Omega.{arith}
use borrow.Author.Tests.{eqb-true}
use Rattle.rounding.specs.laws.Tests.{distinct}
use borrow.Author.Rules.{rules}
use Rattle.year_file.proofs.lengths.opens_once.Statement.{statement}
use Rattle.year_file.proofs.lengths.opens_once.Tie as tie

cast-code : tie.Need-overflow_cast-code
cast-code c = omega (arith, c.shared_slice_known-2-1.given c.args.at)

returns : tie.Need-returns-in_default
returns c = λ e. absurd (distinct (sym e))

returns-2 : tie.Need-returns-in_default-kind
returns-2 c = λ e. absurd (distinct (sym e))

returns-3 : tie.Need-returns-then-file-at
returns-3 c = λ e. absurd (distinct (sym e))

returns-4 : tie.Need-returns
returns-4 c =
    let tested = c.before.before in
    let told = tested.before.before.before in
    let kind = told.before in λ e.
    record {
      phase = told.in-Open.field-0;
      kind = sym kind.kind_for.ensures ∙ kind.in-Some.is ∙ ap Some told.in-Open.is;
      high = tested.if-file-at.false;
      low = eqb-true _ _ e;
    }

pub opens_once_spec : {M : Type 1} → statement M
opens_once_spec =
    tie.close
    (tie.spec (λ c. search rules) cast-code (λ c κs. search rules) (λ c. search rules) (λ c. search rules)
    returns (λ c. search rules) returns-2 (λ c. search rules) (λ c. search rules) (λ c. search rules)
    (λ c. search rules) returns-3 (λ c. search rules) (λ c. search rules) (λ c. search rules)
    (λ c. search rules) returns-4)
