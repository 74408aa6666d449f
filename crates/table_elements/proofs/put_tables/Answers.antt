-- `table_elements::put_tables` meets its contract: the lines before byte `from` are read, and their parts put.
use Rattle.std.proofs.Common.{arith, sym}
use Rattle.table_elements.specs.ReadingLaws.{after_stored}
use Rattle.table_elements.specs.PrintedLaws.{reading-start, reading-turn, fault-output, end-output, end_whole, end-begun}
use Rattle.table_elements.proofs.put_tables.Goals as goal

pub loop-from-init : goal.loop-from-init
loop-from-init c = reading-start _ _ _ (sym c.table-numbers.ensures) (omega arith)

pub returns-in-Err-clause-put : goal.returns-in-Err-clause-put
returns-in-Err-clause-put c = (fault-output _ _ _ _ _ _ _ _ c.loop-from.invariant c.loop-from-test.true _ c.run-length.ensures.0 _ c.read_line-said.ensures.value _ c.in-Err.is).0

pub returns-in-Err-clause-text_value : goal.returns-in-Err-clause-text_value
returns-in-Err-clause-text_value c = (fault-output _ _ _ _ _ _ _ _ c.loop-from.invariant c.loop-from-test.true _ c.run-length.ensures.0 _ c.read_line-said.ensures.value _ c.in-Err.is).1

pub loop-from-preserved : goal.loop-from-preserved
loop-from-preserved c =
    let stored = after_stored _ _ _ _ (omega (arith, c.loop-from.invariant.room)) c.read_line-said.ensures.numbers_after in
    reading-turn _ _ _ _ _ _ _ _ c.loop-from.invariant c.loop-from-test.true _ c.run-length.ensures.0 _ c.read_line-said.ensures.value _
    c.read_line-said.auto.numbers _ _ _ c.in_default.not-Err stored c.put_whole-output.ensures c.rows_after-row.ensures

pub returns-then-row-eq0-clause-put : goal.returns-then-row-eq0-clause-put
returns-then-row-eq0-clause-put c = end-output _ _ _ _ _ _ _ _ c.loop-from.invariant c.loop-from-test.false

pub returns-then-row-eq0-clause-text_value : goal.returns-then-row-eq0-clause-text_value
returns-then-row-eq0-clause-text_value c = end_whole _ _ _ _ _ _ _ _ c.loop-from.invariant c.loop-from-test.false c.if-row-eq0.true

pub returns-clause-put : goal.returns-clause-put
returns-clause-put c = end-output _ _ _ _ _ _ _ _ c.loop-from.invariant c.loop-from-test.false

pub returns-clause-text_value : goal.returns-clause-text_value
returns-clause-text_value c = end-begun _ _ _ _ _ _ _ _ c.loop-from.invariant c.loop-from-test.false c.if-row-eq0.false
