-- `table_elements::put_streams` meets its contract: too long a text, a whole one, or one with a fault.
use Rattle.std.proofs.Common.{arith, refl, ap, ◌∙◌}
use Rattle.decimal_text.specs.laws.TextLaws.{put_nil}
use Rattle.table_elements.specs.PrintedLaws.{error_of, respond-by, respond-long}
use Rattle.table_elements.proofs.put_streams.Goals as goal

pub returns-then-text-gt65536-clause-put : goal.returns-then-text-gt65536-clause-put
returns-then-text-gt65536-clause-put c = (respond-long _ c.if-text-gt65536.true _ _ _ _ c.put_text-error.ensures).0

pub returns-then-text-gt65536-clause-put_2 : goal.returns-then-text-gt65536-clause-put_2
returns-then-text-gt65536-clause-put_2 c = (respond-long _ c.if-text-gt65536.true c.args.out.now _ _ _ c.put_text-error.ensures).1

pub returns-in-Whole-clause-put : goal.returns-in-Whole-clause-put
returns-in-Whole-clause-put c =
    let is = c.in-Whole.is in
    (respond-by _ c.if-text-gt65536.false _ _ _ (rw is at c.put_tables-read.ensures.put) _ (c.put_tables-read.ensures.text_value ∙ ap error_of is) _ _ _ _ refl
    (put_nil c.args.message.now 0 (omega arith))).0

pub returns-in-Whole-clause-put_2 : goal.returns-in-Whole-clause-put_2
returns-in-Whole-clause-put_2 c =
    let is = c.in-Whole.is in
    (respond-by _ c.if-text-gt65536.false _ _ _ (rw is at c.put_tables-read.ensures.put) _ (c.put_tables-read.ensures.text_value ∙ ap error_of is) _ _ _ _ refl
    (put_nil c.args.message.now 0 (omega arith))).1

pub returns-in-Faulty-clause-put : goal.returns-in-Faulty-clause-put
returns-in-Faulty-clause-put c =
    let is = c.in-Faulty.is in
    (respond-by _ c.if-text-gt65536.false _ _ _ (rw is at c.put_tables-read.ensures.put) _ (c.put_tables-read.ensures.text_value ∙ ap error_of is) _ _ _ _ refl
    c.put_fault-error.ensures).0

pub returns-in-Faulty-clause-put_2 : goal.returns-in-Faulty-clause-put_2
returns-in-Faulty-clause-put_2 c =
    let is = c.in-Faulty.is in
    (respond-by _ c.if-text-gt65536.false _ _ _ (rw is at c.put_tables-read.ensures.put) _ (c.put_tables-read.ensures.text_value ∙ ap error_of is) _ _ _ _ refl
    c.put_fault-error.ensures).1
