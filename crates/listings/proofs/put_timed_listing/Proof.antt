-- `listings::put_timed_listing` meets its contract: the line of the reader's refusal, or the lines of the sheet that
-- it found and the notes.
use mathlib.Core.Path.{sym, ◌∙◌}
use native.Mathlib.Omega.{arith}
use mir.Syntax.{w64}
use mir.ValLaws.{to_z-of_z}
use Rattle.listings.specs.laws.ListingLaws.{whole_sheet, refused-printed, sheet-printed}
use borrow.Author.Rules.{rules}
use Rattle.listings.proofs.put_timed_listing.Statement.{statement}
use Rattle.listings.proofs.put_timed_listing.Tie as tie

put-lines-requires : tie.Need-put_lines-lines-requires
put-lines-requires c κs = whole_sheet _ _ _ (sym c.in-Ok.is ∙ c.extent_of_sheet-found.ensures)

returns : tie.Need-returns-in-Err
returns c =
    let f = c.before.before.before.before in
    refused-printed _ _ _ _ _ _ _ _ _ (sym f.in-Err.is ∙ f.extent_of_sheet-found.ensures) c.put_refused.ensures

returns-2 : tie.Need-returns-in-Ok
returns-2 c =
    let notes = c.before.before in
    let lines = notes.before.before.before.before in
    let f = lines.before.before in
    let a = f.before.before.before.before in
    sheet-printed _ _ _ _ _ _ _ _ _ _ (sym f.in-Ok.is ∙ f.extent_of_sheet-found.ensures) (omega arith) _ _ _
    (rw (to_z-of_z w64 a.args.deltat a.ranges.deltat) at lines.put_lines-lines.ensures) notes.put_notes.ensures

pub put_timed_listing_spec : {M : Type 1} → statement M
put_timed_listing_spec =
    tie.close
    (tie.spec (λ c κs. search rules) (λ c. search rules) (λ c κs. search rules) (λ c. search rules)
    put-lines-requires (λ c κs. search rules) (λ c. search rules) returns (λ c. search rules) returns-2)
