-- `network::respond` meets its contract: what is written of the text that was read is what is written of the whole
-- input.
use Rattle.std.proofs.Common.{arith}
use Rattle.network.specs.laws.PrintedLaws.{text_out}
use Rattle.network.proofs.respond.Goals as goal

pub returns-clause-text : goal.returns-clause-text
returns-clause-text c s q = text_out _ _ c.requires.0 (omega arith) s q _ _ _ _ _ (omega arith) c.put_written-written.ensures.text c.put_written-written.ensures.sent c.clipped.ensures.value
