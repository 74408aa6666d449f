-- `table_elements::typed_rows::with_digit` meets its contract: the longer number, or the cap where it is more.
use Rattle.std.proofs.Common.{arith, sym}
use Rattle.table_elements.specs.NumberLaws.{capped-high, digit_low}
use Rattle.table_elements.proofs.typed_rows.with_digit.Goals as goal

pub returns-then-n-gt922337203685477580 : goal.returns-then-n-gt922337203685477580
returns-then-n-gt922337203685477580 c = sym (capped-high _ (omega arith))

pub returns-then-longer-gt9223372036854775808 : goal.returns-then-longer-gt9223372036854775808
returns-then-longer-gt9223372036854775808 c = sym (capped-high _ (omega (arith, c.digit_of.ensures)))

pub returns : goal.returns
returns c = digit_low _ _ _ c.digit_of.ensures c.if-longer-gt9223372036854775808.false
