-- `table_elements::typed_rows::number_of` meets its contract: what stands after the minus decides.
use Rattle.std.proofs.Common.{arith, sym, ◌∙◌}
use Rattle.rounding.specs.laws.Code.{read_result}
use Rattle.table_elements.specs.NumberLaws.{number-none, number-other, number-large, number_is}
use Rattle.table_elements.proofs.typed_rows.number_of.Goals as goal

pub returns-then-digits-eq0 : goal.returns-then-digits-eq0
returns-then-digits-eq0 c = number-none _ _ c.start-minus.ensures.0 c.if-digits-eq0.true

pub returns-then-not-all : goal.returns-then-not-all
returns-then-not-all c = number-other _ _ c.start-minus.ensures.0 (sym c.all.ensures ∙ c.if-not-all.true)

pub returns-then-n-gt9223372036854775807 : goal.returns-then-n-gt9223372036854775807
returns-then-n-gt9223372036854775807 c = number-large _ _ c.start-minus.ensures.0 (omega (arith, c.if-digits-eq0.false)) (sym c.all.ensures ∙ c.if-not-all.false) _ c.size_of-n.ensures c.if-n-gt9223372036854775807.true

pub returns : goal.returns
returns c = number_is _ _ c.start-minus.ensures.0 (omega (arith, c.if-digits-eq0.false)) (sym c.all.ensures ∙ c.if-not-all.false) _ c.size_of-n.ensures c.if-n-gt9223372036854775807.false _ (read_result c.with_sign.result c.with_sign.type_inv ∙ c.with_sign.ensures)
