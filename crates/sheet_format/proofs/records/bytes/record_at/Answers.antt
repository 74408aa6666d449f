-- `sheet_format::records::bytes::record_at` meets its contract. Each sub-answer is its definition's value, so a
-- refusal, and at the end the record, is what `record_at` computes to.
use Rattle.std.proofs.Common.{arith, sym, ◌∙◌}
use Rattle.sheet_format.specs.laws.RecordLaws.{by_byte, by_kind, by-body, byte-inv, body-inv}
use Rattle.sheet_format.proofs.records.bytes.record_at.Goals as goal

pub returns-in_default : goal.returns-in_default
returns-in_default c = by_byte _ _ _ (sym c.byte_at.ensures ∙ c.in_default.is)

pub returns-in_default-kind_for : goal.returns-in_default-kind_for
returns-in_default-kind_for c =
    by_kind _ _ _ _ (sym c.byte_at.ensures ∙ c.in-Some.is) (sym c.kind_for.ensures ∙ c.in_default-kind_for.is)

pub body_at-requires : goal.body_at-requires
body_at-requires c = (byte-inv _ _ _ (sym c.byte_at.ensures ∙ c.in-Some.is)).0

pub returns-in_default-body_at : goal.returns-in_default-body_at
returns-in_default-body_at c =
    by-body _ _ _ _ _ (sym c.byte_at.ensures ∙ c.in-Some.is) (sym c.kind_for.ensures ∙ c.in-Some-kind_for.is)
    (sym c.body_at.ensures ∙ c.in_default-body_at.is)

pub overflow_add-next : goal.overflow_add-next
overflow_add-next c =
    omega (arith, (body-inv _ _ _ _ (sym c.body_at.ensures ∙ c.in-Some-body_at.is)).0, c.size_of.ensures.0)

pub returns : goal.returns
returns c = rw c.size_of.ensures.0
    (by-body _ _ _ _ _ (sym c.byte_at.ensures ∙ c.in-Some.is) (sym c.kind_for.ensures ∙ c.in-Some-kind_for.is)
    (sym c.body_at.ensures ∙ c.in-Some-body_at.is))
