-- `table_elements::respond` meets its contract: what is written of the text that was read is what is written of the
-- whole input.
use Rattle.std.proofs.Common.{arith}
use Rattle.table_elements.specs.laws.StreamLaws.{output-out, error-out}
use Rattle.table_elements.proofs.respond.Goals as goal

pub returns-clause-output : goal.returns-clause-output
returns-clause-output c s q = output-out _ _ c.requires.0 (omega arith) s q _ _ _ _ c.clipped.ensures.value (omega arith) c.put_streams-streams.ensures.put

pub returns-clause-error : goal.returns-clause-error
returns-clause-error c s q = error-out _ _ c.requires.0 (omega arith) s q _ _ _ _ c.clipped-2.ensures.value (omega arith) c.put_streams-streams.ensures.put_2
