-- `table_elements::put_whole` meets its contract, case by case.
use Rattle.std.proofs.Common.{◌≡◌, arith, false, true}
use borrow.Author.Tests.{ne_eqb}
use Rattle.std.proofs.lemmas.Grind.{common_steps}
use Rattle.decimal_text.specs.laws.TextLaws.{put_nil}
use Rattle.table_elements.proofs.put_whole.Goals as goal

pub returns-in-Ok-false : goal.returns-in-Ok-false
returns-in-Ok-false c =
    let e : c.in-Ok-false.field-0 ≡ false = grind (arith, common_steps) in
    rw (c.in-Ok-false.is, e) (put_nil _ _ (omega arith))

pub returns-in-Err : goal.returns-in-Err
returns-in-Err c = rw c.in-Err.is (put_nil _ _ (omega arith))

pub returns-else-row-eq6 : goal.returns-else-row-eq6
returns-else-row-eq6 c =
    let e : c.in-Ok-true.field-0 ≡ true = grind (arith, common_steps) in
    rw (c.in-Ok-true.is, e, ne_eqb _ _ c.if-row-eq6.false) (put_nil _ _ (omega arith))
