-- `table_elements::text::put_fault` meets its contract: its three parts, one after the other.
use Rattle.std.proofs.Common.{arith}
use Rattle.table_elements.specs.PrintedLaws.{put_parts}
use Rattle.table_elements.proofs.text.put_fault.Goals as goal

pub returns : goal.returns
returns c = put_parts _ _ _ _ _ _ _ _ _ (omega arith) c.put_text-first.ensures c.put_number-next.ensures c.put_message.ensures
