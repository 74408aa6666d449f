-- `clock_network::strata::first_lost` meets its contract: the places without steps are the lost ones.
use native.Mathlib.Omega.{arith}
use borrow.Author.Rules.{rules}
use Rattle.clock_network.specs.laws.Laws.{zero_is-lost}
use Rattle.clock_network.specs.laws.DefinedLaws.{distinct, lost-is}
use Rattle.clock_network.proofs.strata.first_lost.Statement.{statement}
use Rattle.clock_network.proofs.strata.first_lost.Tie as tie

search-requires : tie.Need-search-steps-requires
search-requires c κs = (c.requires.0, c.requires.1, distinct c.args.numbers.now c.requires.2)

first-zero-requires : tie.Need-first_zero-requires
first-zero-requires c κs = omega (arith, c.requires.1, c.search-steps.ensures.size)

returns : tie.Need-returns
returns c =
    let b = c.before.before.before in
    lost-is b.args.numbers.now b.args.clocks.now b.requires.2 _
    (zero_is-lost b.args.numbers.now b.args.clocks.now _ _ _ c.search-steps.ensures c.first_zero.ensures)

pub first_lost_spec : {M : Type 1} → statement M
first_lost_spec = tie.close (tie.spec search-requires (λ c. search rules) first-zero-requires returns)
