-- `table_elements::typed_rows::size_of` meets its contract: the digits that are left give the number.
use Rattle.table_elements.specs.NumberLaws.{appending-turn, appending-end}
use Rattle.table_elements.proofs.typed_rows.size_of.Goals as goal

pub loop-x-preserved : goal.loop-x-preserved
loop-x-preserved c = appending-turn _ _ _ c.loop-x.invariant c.loop-x-test.true _ c.with_digit-n.ensures

pub returns : goal.returns
returns c = appending-end _ _ _ c.loop-x.invariant c.loop-x-test.false
