-- `request_text::faults::put_message` meets its contract: its parts, one after the other.
use Prim.Native.Nat.{◌<◌}
use lib.ListN.{length}
use native.Mathlib.Omega.{arith}
use Rattle.request_text.specs.laws.MessageLaws.{put_parts}
use borrow.Author.Rules.{rules}
use Rattle.request_text.proofs.faults.put_message.Statement.{statement}
use Rattle.request_text.proofs.faults.put_message.Tie as tie

-- the buffer's length is a number of the machine
short : (c : tie.After-put_text-number) → length c.args.out.now < 18446744073709551616
short c = omega arith

returns : tie.Need-returns
returns c =
    let fault = c.before.before.before.before.before.before in
    let colon = fault.before.before.before.before.before in
    let number = colon.before.before.before.before.before in
    let start = number.before.before.before.before in
    put_parts _ _ _ _ _ _ _ _ _ _ _ _ _ _ _ _ _ (short start.before) fault.line_of.ensures start.put_text-number.ensures number.put_number-colon.ensures colon.put_text-wrong.ensures
    fault.put_fault-end.ensures c.put_byte.ensures

pub put_message_spec : {M : Type 1} → statement M
put_message_spec =
    tie.close
    (tie.spec (λ c κs. search rules) (λ c κs. search rules) (λ c κs. search rules) (λ c κs. search rules) (λ c κs. search rules) (λ c κs. search rules) (λ c. search rules) returns)
