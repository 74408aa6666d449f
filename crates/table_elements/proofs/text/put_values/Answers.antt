-- `table_elements::text::put_values` meets its contract: seven times the same line.
use Rattle.decimal_text.specs.Rows.{rows}
use Rattle.table_elements.specs.Printed.{values_text}
use Rattle.table_elements.proofs.text.put_values.Goals as goal

pub returns : goal.returns
unfolding values_text rows
returns c = c.put_filled.ensures
