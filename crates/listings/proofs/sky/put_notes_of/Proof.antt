-- `listings::sky::put_notes_of` meets its contract: one note after the other.
use native.Mathlib.Omega.{arith}
use Rattle.decimal_text.specs.laws.RowLaws.{put_as, joined}
use Rattle.listings.specs.laws.SkyLaws.{notes_are}
use borrow.Author.Rules.{rules}
use Rattle.listings.proofs.sky.put_notes_of.Statement.{statement}
use Rattle.listings.proofs.sky.put_notes_of.Tie as tie

returns : tie.Need-returns
returns c =
    let last = c.before.before in
    let second = last.before.before.before.before.before.before in
    let first = second.before.before.before.before.before.before in
    let ends = first.before.before.before.before in
    put_as _ _ _ _ _ _ (notes_are _ _ _ _ _ ends.is_below-low.ensures ends.began-early.ensures ends.goes_on-late.ensures)
    (joined (omega arith) (joined (omega arith) first.put_note-before.ensures second.put_note-after.ensures) last.put_note.ensures)

pub put_notes_of_spec : {M : Type 1} → statement M
put_notes_of_spec =
    tie.close
    (tie.spec (λ c κs. search rules) (λ c κs. search rules) (λ c κs. search rules) (λ c κs. search rules) (λ c κs. search rules) (λ c κs. search rules) (λ c. search rules) returns)
