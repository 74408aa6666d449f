-- `networks::network` meets its contract: 10 first, then what `name` answers.
use mathlib.Core.Path.{◌≡◌, refl}
use mathlib.Core.Bool.{true, ◌&&◌}
use borrow.Author.Rules.{rules}
use borrow.Author.Tests.{eqb-true}
use lib.Dec.{eqb}
use lib.ListN.{length}
use Rattle.rounding.specs.laws.Tests.{both}
use Rattle.networks.specs.AnswerLaws.{by_refused, other-shape, shaped, by-admitted}
use Rattle.networks.proofs.network.Statement.{statement}
use Rattle.networks.proofs.network.Tie as tie

abbrev start : tie.Else-not-shaped → tie.Start
start b = b.before.before.before

right : (b : tie.Else-not-shaped) → let a = (start b).args in (eqb (length a.eclipse.now) 25 && eqb (length a.steps.now) 64) ≡ true
right b = b.if-not-shaped.false

returns : tie.Need-returns-then-not-shaped
returns c =
    let a = c.args in
    λ l k. by-admitted a.eclipse.now l a.sines.now a.steps.now _ (other-shape _ l _ _ c.if-not-shaped.true) (by_refused _ refl)

name-requires : tie.Need-name-requires
name-requires c κs =
    let b = c.before.before in
    let a = (start b).args in
    let e = both (eqb (length a.eclipse.now) 25) (eqb (length a.steps.now) 64) (right b) in
    (eqb-true _ _ e.0, (start b).requires, eqb-true _ _ e.1)

returns-2 : tie.Need-returns
returns-2 c =
    let m = c.before.before.before.before in
    let b = m.before.before.before in
    let a = (start b).args in
    λ l k. by-admitted a.eclipse.now l a.sines.now a.steps.now _ (shaped _ l _ _ (right b)) (m.name.ensures l k)

pub network_spec : {M : Type 1} → statement M
network_spec = tie.close (tie.spec returns name-requires (λ c. search rules) (λ c. search rules) returns-2)
