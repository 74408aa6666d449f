-- `listings::listing` meets its contract: what the reader refuses is refused, and a sheet that is all of the bytes is
-- the one that they begin with.
use Rattle.std.proofs.Common.{rules, ◌≡◌, sym, ◌∙◌, Err}
use Rattle.listings.specs.laws.ListingLaws.{whole_sheet, whole_refused, whole-told}
use Rattle.listings.proofs.listing.Goals as goal

pub returns-in_err-extent_of_sheet : goal.returns-in_err-extent_of_sheet
returns-in_err-extent_of_sheet c =
    let k : c.from_residual.result ≡ Err c.in_err-extent_of_sheet.field-0.0 = search rules in
    let x = whole_refused c.args.sheet.now _ c.args.out.now
    (sym c.in_err-extent_of_sheet.was ∙ c.extent_of_sheet.ensures) in
    record { value = k ∙ x.0; out_after = x.1 }

pub lay-requires : goal.lay-requires
lay-requires c = whole_sheet _ _ _ (sym c.in_ok-extent_of_sheet.was ∙ c.extent_of_sheet.ensures)

pub returns : goal.returns
returns c =
    let x = whole-told _ _ _ _ _ _ (sym c.in_ok-extent_of_sheet.was ∙ c.extent_of_sheet.ensures)
    c.lay.ensures.value c.lay.ensures.out_after in
    record { value = x.0; out_after = x.1 }
