-- `sheet_format::records::bytes::byte_at` meets its contract. The test is the definition's: a byte below the length,
-- and past it none.
use Rattle.std.specs.Prelude.{Some}
use Rattle.sheet_format.specs.laws.RecordLaws.{byte-there, byte_past}
use mathlib.Core.Path.{sym, ap, ◌∙◌}
use borrow.Author.Rules.{rules}
use Rattle.sheet_format.proofs.records.bytes.byte_at.Statement.{statement}
use Rattle.sheet_format.proofs.records.bytes.byte_at.Tie as tie

returns : tie.Need-returns-then-at-s
returns c = ap Some c.wide-byte.ensures.0 ∙ sym (byte-there _ _ c.if-at-s.true)

returns-2 : tie.Need-returns
returns-2 c = sym (byte_past _ _ c.if-at-s.false)

pub byte_at_spec : {M : Type 1} → statement M
byte_at_spec = tie.close (tie.spec (λ c. search rules) (λ c κs. search rules) returns returns-2)
