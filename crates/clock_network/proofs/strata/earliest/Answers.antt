-- `clock_network::strata::earliest` meets its contract: at the end `best` is the first of all places.
use Rattle.clock_network.specs.laws.Earliest.{far-end}
use Rattle.clock_network.specs.laws.DefinedLaws.{earliest-is}
use Rattle.clock_network.proofs.strata.earliest.Goals as goal

pub returns : goal.returns
returns c = let l = c.loop-i in let a = c.args in earliest-is a.tos.now a.never _ (far-end a.tos.now a.never l.i l.low l.best l.invariant c.loop-i-test.false)
