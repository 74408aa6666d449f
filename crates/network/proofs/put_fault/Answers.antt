-- `network::put_fault` meets its contract: each arm is a case of the definition.
use Rattle.std.proofs.Common.{sym, ap}
use Rattle.decimal_text.specs.laws.RowLaws.{put_as}
use Rattle.network.specs.Printed.{fault_text}
use Rattle.network.proofs.put_fault.Goals as goal

pub returns-in-Typed : goal.returns-in-Typed
unfolding fault_text
returns-in-Typed c = put_as _ _ _ _ _ _ (ap (fault_text c.args.text.now c.args.line) (sym c.in-Typed.is)) c.put_message.ensures

pub returns-in-Clock : goal.returns-in-Clock
unfolding fault_text
returns-in-Clock c = put_as _ _ _ _ _ _ (ap (fault_text c.args.text.now c.args.line) (sym c.in-Clock.is)) c.put_clock.ensures
