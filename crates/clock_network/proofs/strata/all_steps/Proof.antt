-- `clock_network::strata::all_steps` meets its contract: what the search found are the steps, and there is one such
-- list.
use Rattle.clock_network.specs.laws.DefinedLaws.{distinct, steps-is}
use Rattle.clock_network.proofs.strata.all_steps.Statement.{statement}
use Rattle.clock_network.proofs.strata.all_steps.Tie as tie

search-requires : tie.Need-search-requires
search-requires c κs = (c.requires.0, c.requires.1, distinct c.args.numbers.now c.requires.2)

returns : tie.Need-returns
returns c =
    let b = c.before in
    steps-is b.args.numbers.now b.args.clocks.now b.requires.2 _ b.requires.1 c.search.ensures

pub all_steps_spec : {M : Type 1} → statement M
all_steps_spec = tie.close (tie.spec search-requires returns)
