-- `listings::lay` meets its contract: the lines are measured in an empty buffer, and put where the buffer holds them.
use native.Mathlib.Omega.{arith}
use Rattle.sheet_codec.specs.Sheets.{read_sheet}
use Rattle.listings.specs.laws.ListingLaws.{sheet-short, sheet-full}
use borrow.Author.Rules.{rules}
use Rattle.listings.proofs.lay.Statement.{statement}
use Rattle.listings.proofs.lay.Tie as tie

returns : tie.Need-returns-then-out-need
returns c =
    let a = c.args in
    sheet-short (read_sheet a.sheet.now) _ _ a.out.now _ _ c.put_lines-measured.ensures (omega arith) c.if-out-need.true

returns-2 : tie.Need-returns
returns-2 c =
    let t = c.before.before.before.before in
    let a = t.args in
    sheet-full (read_sheet a.sheet.now) _ _ a.out.now _ _ t.put_lines-measured.ensures (omega arith) t.if-out-need.false _ _ _ c.put_lines.ensures

pub lay_spec : {M : Type 1} → statement M
lay_spec =
    tie.close
    (tie.spec (λ c. search rules) (λ c κs. search rules) returns (λ c κs. search rules) (λ c. search rules)
    returns-2)
