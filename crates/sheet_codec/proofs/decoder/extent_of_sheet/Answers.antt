-- `sheet_codec::decoder::extent_of_sheet` meets its contract. What follows the sheet is refused as `alone` does.
use Rattle.std.proofs.Common.{rules, ◌≡◌, sym, ◌∙◌, Err}
use Rattle.sheet_codec.specs.laws.SheetLaws.{whole_by}
use borrow.Author.Tests.{lt-ltb, le-ltb}
use Rattle.sheet_codec.proofs.decoder.extent_of_sheet.Goals as goal

pub returns-in_err-entries : goal.returns-in_err-entries
returns-in_err-entries c =
    let k : c.from_residual.result ≡ Err c.in_err-entries.field-0.0 = search rules in
    k ∙ sym (whole_by _ _ (sym c.in_err-entries.was ∙ c.extent_of_leading_sheet.ensures))

pub returns-then-end-s : goal.returns-then-end-s
returns-then-end-s c =
    sym (whole_by _ _ (sym c.in_ok-entries.was ∙ c.extent_of_leading_sheet.ensures) ∙ rw (lt-ltb _ _ c.if-end-s.true))

pub returns : goal.returns
returns c =
    sym (whole_by _ _ (sym c.in_ok-entries.was ∙ c.extent_of_leading_sheet.ensures) ∙ rw (le-ltb _ _ c.if-end-s.false))
