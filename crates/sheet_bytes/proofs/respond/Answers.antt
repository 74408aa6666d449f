-- `sheet_bytes::respond` meets its contract: the bytes of the sheet for standard output, or the line of the refusal
-- for standard error.
use Rattle.std.proofs.Common.{arith, sym, ◌≡◌, length, length-take-le}
use Rattle.request_answers.specs.laws.SheetLaws.{fits_written, fits}
use Rattle.decimal_text.specs.laws.RowLaws.{copies_length}
use Rattle.program_io.specs.laws.OutputLaws.{put_whole}
use Rattle.sheet_bytes.specs.laws.StreamLaws.{sheet-out, line_out}
use Rattle.sheet_bytes.proofs.respond.Goals as goal

pub slice_bounds-room-end : goal.slice_bounds-room-end
slice_bounds-room-end c = fits_written _ c.sheet-answer.new.buf _ c.in-Ok.is (fits _ _ _ _ c.sheet-answer.ensures.answer c.sheet-answer.new.buf (omega arith))

pub slice_bounds-put_text-end-in-Ok : goal.slice_bounds-put_text-end-in-Ok
slice_bounds-put_text-end-in-Ok c = sym (length-take-le _ _ (fits_written _ c.sheet-answer.new.buf _ c.in-Ok.is (fits _ _ _ _ c.sheet-answer.ensures.answer c.sheet-answer.new.buf (omega arith))))

pub returns-in-Ok-clause-text : goal.returns-in-Ok-clause-text
returns-in-Ok-clause-text c =
    let fit = fits_written _ c.sheet-answer.new.buf _ c.in-Ok.is (fits _ _ _ _ c.sheet-answer.ensures.answer c.sheet-answer.new.buf (omega arith)) in
    let short = length-take-le c.in-Ok.written c.sheet-answer.new.buf fit in
    let same : length c.sheet-answer.new.buf ≡ length c.sheet_room-room.result = omega arith in
    let w = put_whole _ _ _ _ c.put_text-stored.ensures (omega (arith, short, fit, same, copies_length c.sheet_room-room.ensures)) (omega arith) in
    sheet-out _ _ _ _ _ _ c.sines_room-sines.ensures c.sheet_room-room.ensures c.requires.0 (omega arith)
    c.sheet-answer.ensures.answer c.sheet-answer.ensures.buffer _ c.in-Ok.is _ w.0

pub returns-in-Ok-clause-counts : goal.returns-in-Ok-clause-counts
returns-in-Ok-clause-counts c =
    let fit = fits_written _ c.sheet-answer.new.buf _ c.in-Ok.is (fits _ _ _ _ c.sheet-answer.ensures.answer c.sheet-answer.new.buf (omega arith)) in
    let short = length-take-le c.in-Ok.written c.sheet-answer.new.buf fit in
    let same : length c.sheet-answer.new.buf ≡ length c.sheet_room-room.result = omega arith in
    (put_whole _ _ _ _ c.put_text-stored.ensures (omega (arith, short, fit, same, copies_length c.sheet_room-room.ensures)) (omega arith)).1

pub returns-in-Err-clause-text : goal.returns-in-Err-clause-text
returns-in-Err-clause-text c =
    line_out _ _ _ _ _ _ c.sines_room-sines.ensures c.sheet_room-room.ensures c.requires.0 (omega arith)
    c.sheet-answer.ensures.answer c.sheet-answer.ensures.buffer _ c.in-Err.is _ c.put_refusal-line.ensures.line
