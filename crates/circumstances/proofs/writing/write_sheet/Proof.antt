-- `circumstances::writing::write_sheet` meets its contract: head, phases and what closes the sheet, each behind the
-- one before it.
use mathlib.Core.Path.{◌≡◌, sym, ap, ◌∙◌}
use mathlib.Core.List.{List}
use Prim.Native.Nat.{ℕ, ◌+◌}
use native.Mathlib.Omega.{arith}
use borrow.Author.Rules.{rules}
use lib.ListN.{length}
use lib.Seq.{length-sets}
use Rattle.shadow_geometry.specs.Shadow.{phases_of}
use Rattle.sheet_format.specs.declared.kinds.Kind.TheVariants as K
use Rattle.sheet_format.specs.declared.kinds.Entry.{Entry}
use Rattle.sheet_format.specs.Kinds.{size_of}
use Rattle.sheet_format.specs.RecordEntries.{bytes, bytes_of}
use Rattle.local_circumstances.specs.Courses.{entriesOf, closingEntries}
use Rattle.local_circumstances.specs.laws.Lengths.{head-size, sheet-length}
use Rattle.local_circumstances.specs.laws.Stores.{stores-sheet}
use Rattle.requests.specs.declared.Occultation.{Occultation}
use Rattle.local_circumstances.specs.Course.{course_of}
use Rattle.circumstances.specs.WrittenSheet.{sheet_bytes}
use Rattle.circumstances.proofs.writing.write_sheet.Statement.{statement}
use Rattle.circumstances.proofs.writing.write_sheet.Tie as tie

-- the bytes of the phases' entries, and of those that close the sheet
abbrev phases : Occultation → List ℕ
phases o = bytes_of (entriesOf (course_of o) (phases_of o.body))

abbrev closing : Occultation → List ℕ
closing o = bytes_of (closingEntries (course_of o))

sheet-is : (o : Occultation) → length (sheet_bytes o) ≡ size_of K.Head + length (phases o) + length (closing o)
unfolding sheet_bytes
sheet-is o = sheet-length (course_of o)

-- ---- the places after them
head-is : (c : tie.After-head_for-head) → size_of c.head_for-head.result.kind ≡ size_of K.Head
head-is c = ap (λ (e : Entry). size_of e.kind) c.head_for-head.ensures ∙ head-size (course_of c.args.o)

after_head : (c : tie.After-put-after_head) → c.put-after_head.result ≡ size_of K.Head
after_head c = omega (arith, c.put-after_head.ensures.0, head-is c.before.before)

after-phases : (c : tie.After-write_phases-after_phases) → c.write_phases-after_phases.result ≡ size_of K.Head + length (phases c.args.o)
after-phases c = omega (arith, c.write_phases-after_phases.ensures.0, after_head c.before.before.before.before)

put-requires : tie.Need-put-after_head-requires
put-requires c κs =
    let b = c.before.before.before.before.before in
    omega (arith, head-is c.before, sheet-is b.args.o, b.requires.1.1)

write-phases-requires : tie.Need-write_phases-after_phases-requires
write-phases-requires c κs =
    let p = c.before.before.before in
    let b = p.before.before.before.before.before.before in (
      (b.requires.0.0, b.requires.0.1, b.requires.0.2),
      (
        b.requires.1.0,
        omega (
          arith,
          after_head p,
          sheet-is b.args.o,
          b.requires.1.1,
          ap length p.put-after_head.ensures.1,
          length-sets b.args.buf.now 0 (bytes p.head_for-head.result),
        ),
      ),
    )

-- the buffer's length stays
kept : (c : tie.After-write_phases-after_phases) → length c.write_phases-after_phases.new.buf ≡ length c.args.buf.now
kept c =
    let p = c.before.before.before.before in
    let b = p.before.before.before.before.before.before in
    ap length c.write_phases-after_phases.ensures.1
    ∙ length-sets p.put-after_head.new.buf p.put-after_head.result (phases b.args.o)
    ∙ ap length p.put-after_head.ensures.1
    ∙ length-sets b.args.buf.now 0 (bytes p.head_for-head.result)

write-closing-requires : tie.Need-write_closing-requires
write-closing-requires c κs =
    let w = c.before.before.before in
    let b = w.before.before.before.before.before.before.before.before.before.before in (
      (b.requires.0.0, b.requires.0.1, b.requires.0.2, b.requires.0.3),
      omega (arith, w.write_phases-after_phases.ensures.0, after-phases w, kept w, sheet-is b.args.o, b.requires.1.1),
    )

returns : tie.Need-returns
unfolding sheet_bytes
returns c =
    let l = c.before.before in
    let w = l.before.before.before.before in
    let p = w.before.before.before.before in
    let h = p.before.before in
    let b = h.before.before.before.before in
    let o = b.args.o in (
      omega (arith, l.write_closing.ensures.0, after-phases w, sheet-is o),
      rw (l.write_closing.ensures.1, w.write_phases-after_phases.ensures.1, p.put-after_head.ensures.1, h.head_for-head.ensures)
          (stores-sheet (course_of o) b.args.buf.now p.put-after_head.result w.write_phases-after_phases.result
          (after_head p ∙ sym (head-size (course_of o))) w.write_phases-after_phases.ensures.0),
    )

pub write_sheet_spec : {M : Type 1} → statement M
write_sheet_spec =
    tie.close (tie.spec (λ c κs. search rules) put-requires write-phases-requires write-closing-requires (λ c. search rules) returns)
