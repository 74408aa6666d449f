-- `table_elements::text::put_table` meets its contract: the values, or the refusal.
use Rattle.std.proofs.Common.{sym}
use Rattle.table_elements.specs.PrintedLaws.{table-made, table-refused}
use Rattle.table_elements.proofs.text.put_table.Goals as goal

pub returns-in-Ok : goal.returns-in-Ok
returns-in-Ok c = table-made _ _ _ c.elements-answer.ensures.answer (sym c.room-values.ensures) _ _ _ _ c.in-Ok.is _ _ (sym c.room-values.ensures) c.elements-answer.ensures.values c.put_values.ensures

pub returns-in-Err : goal.returns-in-Err
returns-in-Err c = table-refused _ _ _ c.elements-answer.ensures.answer (sym c.room-values.ensures) _ _ _ _ _ c.in-Err.is c.put_refused.ensures
