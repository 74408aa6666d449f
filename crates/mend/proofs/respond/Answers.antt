-- `mend::respond` meets its contract: what is written of the bytes that were read is what is written of the whole
-- input.
use Rattle.std.proofs.Common.{arith}
use Rattle.mend.specs.laws.PrintedLaws.{sheets-out, text_out}
use Rattle.mend.proofs.respond.Goals as goal

pub returns-clause-output : goal.returns-clause-output
returns-clause-output c s q = sheets-out _ _ c.requires.0 (omega arith) s q _ _ _ (omega arith) (omega (arith, c.room-notes.ensures)) c.mended-streams.ensures.output

pub returns-clause-error : goal.returns-clause-error
returns-clause-error c s q =
    text_out _ _ c.requires.0 (omega arith) s q _ _ _ _ _ _ (omega arith) (omega (arith, c.room-notes.ensures)) (omega arith) c.mended-streams.ensures.error
    c.clipped.ensures.value
