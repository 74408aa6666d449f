-- `circumstances::sheet_from` meets its contract: where the buffer can hold it, the whole sheet is written.
use native.Mathlib.Omega.{arith}
use borrow.Author.Rules.{rules}
use Rattle.circumstances.specs.laws.Claims.{room-short, room-enough}
use Rattle.circumstances.proofs.sheet_from.Statement.{statement}
use Rattle.circumstances.proofs.sheet_from.Tie as tie

abbrev start : tie.After-sheet_length-need → tie.Start
start c = c.before.before.before.before

returns : tie.Need-returns-then-buf-need
returns c =
    let s = c.before in
    room-short (start s).args.o (start s).args.buf.now _ s.sheet_length-need.ensures c.if-buf-need.true

write-sheet-requires : tie.Need-write_sheet-length-requires
write-sheet-requires c κs =
    let s = c.before.before in
    let b = start s in (
      (b.requires.0.0, b.requires.0.1, b.requires.0.2, b.requires.0.3),
      (b.requires.1, omega (arith, s.sheet_length-need.ensures, c.if-buf-need.false)),
    )

returns-2 : tie.Need-returns
returns-2 c =
    let w = c.before.before in
    let s = w.before.before.before in
    let b = start s in
    room-enough b.args.o b.args.buf.now _ _ w.write_sheet-length.ensures.0 (omega (arith, s.sheet_length-need.ensures, w.if-buf-need.false)) w.write_sheet-length.ensures.1

pub sheet_from_spec : {M : Type 1} → statement M
sheet_from_spec = tie.close (tie.spec (λ c κs. search rules) returns write-sheet-requires (λ c. search rules) returns-2)
