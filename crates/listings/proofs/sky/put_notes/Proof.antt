-- `listings::sky::put_notes` meets its contract: nothing without an occultation, else its notes.
use native.Mathlib.Omega.{arith}
use Rattle.decimal_text.specs.laws.TextLaws.{put_nil}
use borrow.Author.Rules.{rules}
use Rattle.listings.proofs.sky.put_notes.Statement.{statement}
use Rattle.listings.proofs.sky.put_notes.Tie as tie

returns : tie.Need-returns-in-None
returns c = rw c.in-None.is (put_nil _ _ (omega arith))

returns-2 : tie.Need-returns-in-Some
returns-2 c = rw c.in-Some.is c.put_notes_of.ensures

pub put_notes_spec : {M : Type 1} → statement M
put_notes_spec =
    tie.close
    (tie.spec (λ c. search rules) (λ c. search rules) (λ c κs. search rules) returns (λ c. search rules)
    returns-2)
