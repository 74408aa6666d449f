-- `sheet_codec::decoder::read` meets its contract. Three ways out: refused, a buffer that is too short, and filled;
-- each is `read_into` and `room_after` at what was found.
use Rattle.std.proofs.Common.{rules, ◌≡◌, sym, ap, ◌∙◌, Err}
use Rattle.sheet_codec.proofs.decoder.Answers.{room_for, read_refused, read_short, read-full}
use Rattle.sheet_codec.specs.laws.SheetLaws.{whole_same}
use Rattle.sheet_codec.specs.Sheets.{read_whole}
use Rattle.sheet_codec.specs.laws.Passes.{filled}
use Rattle.sheet_codec.proofs.decoder.read.Goals as goal

pub returns-in_err-entries : goal.returns-in_err-entries
returns-in_err-entries c =
    let k : c.from_residual.result ≡ Err c.in_err-entries.field-0.0 = search rules in
    let x = read_refused (read_whole c.args.s.now) c.args.room.now _
    (sym c.in_err-entries.was ∙ c.extent_of_sheet.ensures) in
    record { value = k ∙ x.0; room_after = x.1 }

pub returns-then-room-entries : goal.returns-then-room-entries
returns-then-room-entries c =
    let q = sym c.in_ok-entries.was ∙ c.extent_of_sheet.ensures in
    let x = read_short (read_whole c.args.s.now) c.args.room.now _ _ q c.if-room-entries.true in
    record { value = x.0; room_after = x.1 }

pub read_entries-requires : goal.read_entries-requires
read_entries-requires c =
    let q = sym c.in_ok-entries.was ∙ c.extent_of_sheet.ensures in
    rw (← whole_same _ _ _ q) (room_for (read_whole c.args.s.now) _ _ _ q c.if-room-entries.false)

pub returns : goal.returns
returns c =
    let q = sym c.in_ok-entries.was ∙ c.extent_of_sheet.ensures in
    let x = read-full (read_whole c.args.s.now) c.args.room.now _ _ _ q c.if-room-entries.false
    (c.read_entries.ensures ∙ ap (λ w. filled w c.args.room.now) (sym (whole_same _ _ _ q))) in
    record { value = x.0; room_after = x.1 }
