-- `table_elements::text::put_message` meets its contract, case by case.
use Rattle.std.proofs.Common.{sym, ap}
use Rattle.decimal_text.specs.laws.RowLaws.{put_as}
use Rattle.table_elements.specs.Printed.{message_of}
use Rattle.table_elements.proofs.text.put_message.Goals as goal

pub returns-in-NotWhole : goal.returns-in-NotWhole
unfolding message_of
returns-in-NotWhole c = put_as _ _ _ _ _ _ (sym (ap message_of c.in-NotWhole.is)) c.put_text.ensures

pub returns-in-TooLarge : goal.returns-in-TooLarge
unfolding message_of
returns-in-TooLarge c = put_as _ _ _ _ _ _ (sym (ap message_of c.in-TooLarge.is)) c.put_text-in-TooLarge.ensures

pub returns-in-More : goal.returns-in-More
unfolding message_of
returns-in-More c = put_as _ _ _ _ _ _ (sym (ap message_of c.in-More.is)) c.put_text-in-More.ensures

pub returns-in-Fewer : goal.returns-in-Fewer
unfolding message_of
returns-in-Fewer c = put_as _ _ _ _ _ _ (sym (ap message_of c.in-Fewer.is)) c.put_text-in-Fewer.ensures

pub returns-in-Unfinished : goal.returns-in-Unfinished
unfolding message_of
returns-in-Unfinished c = put_as _ _ _ _ _ _ (sym (ap message_of c.in-Unfinished.is)) c.put_text-in-Unfinished.ensures
