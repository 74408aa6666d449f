-- `clock_network::strata::first_stray` meets its contract: the clock at i is not 0, and is none of the numbers.
use Rattle.std.proofs.Common.{◌≡◌, arith, length, ◌∙◌, ap, of_z, pos}
use Rattle.std.specs.Int.{w64}
use Rattle.std.proofs.lemmas.Bool.Decides.{Decides-int_eq, not_from_Decides}
use Rattle.clock_network.specs.laws.First.{first_found, first-none}
use Rattle.clock_network.specs.laws.DefinedLaws.{stray-is}
use Rattle.clock_network.proofs.strata.first_stray.Goals as goal

pub returns-then-not-contains : goal.returns-then-not-contains
returns-then-not-contains c =
    let a = c.args in
    stray-is a.numbers.now a.clocks.now _
    (first_found c.loop-i.invariant (
      λ e. c.if-x-ne0.true (ap (of_z w64) e),
      λ j l e. not_from_Decides _ (Decides-int_eq _ _) (c.if-not-contains.ensures.cases j (pos 0) (omega arith) l) e,
    ))

pub returns : goal.returns
returns c =
    let a = c.args in
    let e : length a.clocks.now ≡ c.loop-i.i = omega (arith, c.loop-i.invariant.0, c.requires) in
    e ∙ stray-is a.numbers.now a.clocks.now _ (first-none c.loop-i.invariant (omega arith))
