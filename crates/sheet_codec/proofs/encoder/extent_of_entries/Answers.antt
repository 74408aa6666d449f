-- `sheet_codec::encoder::extent_of_entries` meets its contract. What follows the end entry is refused as `alone`
-- does; the list's length over four, rounded up, decides it.
use Rattle.std.proofs.Common.{rules, arith, ◌≡◌, sym, ◌∙◌, length, ◌*◌, Err}
use Rattle.sheet_codec.specs.laws.SheetLaws.{list_by}
use borrow.Author.Tests.{lt-ltb, le-ltb}
use Rattle.sheet_codec.proofs.encoder.extent_of_entries.Goals as goal

pub returns-in_err-entries : goal.returns-in_err-entries
returns-in_err-entries c =
    let k : c.from_residual.result ≡ Err c.in_err-entries.field-0.0 = search rules in
    k ∙ sym (list_by _ _ (sym c.in_err-entries.was ∙ c.extent_of_leading_entries.ensures))

pub returns-then-entries-held : goal.returns-then-entries-held
returns-then-entries-held c =
    sym (list_by _ _ (sym c.in_ok-entries.was ∙ c.extent_of_leading_entries.ensures)
    ∙ rw (lt-ltb (c.in_ok-entries.entries * 5) (length c.args.l.now) (omega arith)))

pub returns : goal.returns
returns c =
    sym (list_by _ _ (sym c.in_ok-entries.was ∙ c.extent_of_leading_entries.ensures)
    ∙ rw (le-ltb (c.in_ok-entries.entries * 5) (length c.args.l.now) (omega arith)))
