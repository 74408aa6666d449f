-- `element_fits::unless` meets its contract, by its cases.
use Rattle.std.specs.Prelude.{Option, ℕ}
use mathlib.Core.Path.{sym, ap, ap₂}
use mathlib.Core.Bool.{Bool}
use borrow.Author.Rules.{rules}
use Rattle.element_fits.specs.Answers.{unless}
use Rattle.element_fits.proofs.unless.Statement.{statement}
use Rattle.element_fits.proofs.unless.Tie as tie

returns : tie.Need-returns-in-Some
unfolding unless
returns c =
    let a = c.args in
    sym (ap (λ (l : Option ℕ). unless l a.good a.place) c.in-Some.is)

returns-2 : tie.Need-returns-then-good
unfolding unless
returns-2 c =
    let a = c.args in
    sym (ap₂ (λ (l : Option ℕ) (t : Bool). unless l t a.place) c.in_default.is c.if-good.true)

returns-3 : tie.Need-returns
unfolding unless
returns-3 c =
    let a = c.args in
    sym (ap₂ (λ (l : Option ℕ) (t : Bool). unless l t a.place) c.in_default.is c.if-good.false)

pub unless_spec : {M : Type 1} → statement M
unless_spec = tie.close (tie.spec (λ c. search rules) returns (λ c. search rules) returns-2 returns-3)
