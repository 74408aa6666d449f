-- `network::put_sun` meets its contract: each arm has its words.
use Rattle.std.proofs.Common.{arith}
use Rattle.decimal_text.specs.laws.TextLaws.{put_nil}
use Rattle.network.specs.Printed.{sun_text}
use Rattle.network.proofs.put_sun.Goals as goal

pub returns-in-Nothing : goal.returns-in-Nothing
unfolding sun_text
returns-in-Nothing c = rw c.in-Nothing.is (put_nil _ _ (omega arith))

pub returns-in-Above : goal.returns-in-Above
unfolding sun_text
returns-in-Above c = rw c.in-Above.is c.put_text.ensures

pub returns-in-Below : goal.returns-in-Below
unfolding sun_text
returns-in-Below c = rw c.in-Below.is c.put_text-in-Below.ensures
