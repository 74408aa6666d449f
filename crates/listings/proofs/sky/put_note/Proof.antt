-- `listings::sky::put_note` meets its contract: the words where it holds, else nothing.
use native.Mathlib.Omega.{arith}
use Rattle.listings.specs.laws.SkyLaws.{note-holds, note-not}
use borrow.Author.Rules.{rules}
use Rattle.listings.proofs.sky.put_note.Statement.{statement}
use Rattle.listings.proofs.sky.put_note.Tie as tie

returns : tie.Need-returns-then-holds
returns c = note-holds _ _ _ _ c.if-holds.true _ _ c.put_words.ensures

returns-2 : tie.Need-returns
returns-2 c = note-not _ _ _ _ c.if-holds.false (omega arith)

pub put_note_spec : {M : Type 1} → statement M
put_note_spec =
    tie.close
    (tie.spec (λ c κs. search rules) (λ c. search rules) returns returns-2)
