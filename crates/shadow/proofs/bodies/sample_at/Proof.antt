-- `shadow::bodies::sample_at` meets its contract: of either body.
use borrow.Author.Rules.{rules}
use mathlib.Core.Path.{sym, subst}
use Rattle.rounding.specs.laws.Code.{read_back, read-size}
use Rattle.elements.specs.declared.Body.{Body}
use Rattle.elements.specs.StarLaws.{BodySizes}
use Rattle.shadow.specs.Second.{IsSample}
use Rattle.shadow.proofs.bodies.sample_at.Statement.{statement}
use Rattle.shadow.proofs.bodies.sample_at.Tie as tie

eclipse-sample-requires : tie.Need-eclipse_sample-requires
eclipse-sample-requires c κs =
    let a = c.before.before in
    (a.requires.0, subst BodySizes c.in-Sun.is a.requires.1, a.requires.2, read-size a.args.t 10800 a.requires.3 tt)

star-sample-requires : tie.Need-star_sample-requires
star-sample-requires c κs =
    let a = c.before.before in
    (a.requires.0, subst BodySizes c.in-Star.is a.requires.1, a.requires.2, read-size a.args.t 10800 a.requires.3 tt)

returns : tie.Need-returns-in-Sun
returns c =
    let a = c.before.before.before in
    subst (λ (b : Body). IsSample b a.args.place a.args.t c.eclipse_sample.result) (sym c.in-Sun.is)
    (rw (read_back a.args.t a.requires.3 tt) at c.eclipse_sample.ensures)

returns-2 : tie.Need-returns-in-Star
returns-2 c =
    let a = c.before.before.before in
    subst (λ (b : Body). IsSample b a.args.place a.args.t c.star_sample.result) (sym c.in-Star.is)
    (rw (read_back a.args.t a.requires.3 tt) at c.star_sample.ensures)

pub sample_at_spec : {M : Type 1} → statement M
sample_at_spec =
    tie.close
    (tie.spec (λ c. search rules) eclipse-sample-requires (λ c. search rules) star-sample-requires returns
    returns-2)
