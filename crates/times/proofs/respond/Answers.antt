-- `times::respond` meets its contract: the bytes of a text that is taken are those of its request, and what is printed
-- is the answer to them; or the message goes to standard error. The text that was read stands for the whole input.
use Rattle.std.proofs.Common.{arith, sym, ◌∙◌}
use Rattle.request_text.specs.laws.RoomLaws.{bytes-first, message-first}
use Rattle.times.specs.laws.PrintedLaws.{listing-out, message-out}
use Rattle.times.proofs.respond.Goals as goal

pub returns-in-Ok-clause-text : goal.returns-in-Ok-clause-text
returns-in-Ok-clause-text c s q =
    let b = bytes-first _ _ _ _ _ (sym c.in-Ok.is ∙ c.read-answer.ensures.answer) c.read-answer.ensures.bytes in
    listing-out _ _ _ _ _ _ c.requires.0 (omega arith) (omega arith) c.clipped.ensures.value s q b _ _ c.sines_room-sines.ensures c.sheet_room-room.ensures c.put_text-end.ensures

pub returns-in-Err-clause-text : goal.returns-in-Err-clause-text
returns-in-Err-clause-text c s q =
    let m = message-first _ _ _ _ (sym c.in-Err.is ∙ c.read-answer.ensures.answer) c.read-answer.ensures.message in
    message-out _ _ _ _ _ _ c.requires.0 (omega arith) (omega arith) c.clipped-in-Err.ensures.value s q m c.put_text-told.ensures
