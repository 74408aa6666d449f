-- `request::respond` meets its contract: the bytes of the request for standard output, or the message for standard
-- error.
use Rattle.std.proofs.Common.{arith, sym, ◌∙◌}
use Rattle.program_io.specs.laws.OutputLaws.{put_whole}
use Rattle.request_text.specs.laws.RoomLaws.{bytes-first, message-first}
use Rattle.request.specs.laws.StreamLaws.{request-fits, request-out, message-out}
use Rattle.request.proofs.respond.Goals as goal

pub returns-in-Ok-clause-text : goal.returns-in-Ok-clause-text
returns-in-Ok-clause-text c s q =
    let b = bytes-first _ _ _ _ _ (sym c.in-Ok.is ∙ c.read-answer.ensures.answer) c.read-answer.ensures.bytes in
    let w = put_whole _ _ _ _ c.put_text-stored.ensures (omega (arith, request-fits b)) (omega arith) in
    request-out _ _ c.requires.0 (omega arith) s q b _ w.0

pub returns-in-Ok-clause-counts : goal.returns-in-Ok-clause-counts
returns-in-Ok-clause-counts c =
    let b = bytes-first _ _ _ _ _ (sym c.in-Ok.is ∙ c.read-answer.ensures.answer) c.read-answer.ensures.bytes in
    (put_whole _ _ _ _ c.put_text-stored.ensures (omega (arith, request-fits b)) (omega arith)).1

pub returns-in-Err-clause-text : goal.returns-in-Err-clause-text
returns-in-Err-clause-text c s q =
    let m = message-first _ _ _ _ (sym c.in-Err.is ∙ c.read-answer.ensures.answer) c.read-answer.ensures.message in
    message-out _ _ c.requires.0 (omega arith) s q m
