use Rattle.std.proofs.Common.{arith}
use Rattle.decimal_text.specs.laws.PatternLaws.{number_small, number_more}
use Rattle.decimal_text.proofs.+put_number.Goals as goal

pub returns-then-n-lt10 : goal.returns-then-n-lt10
returns-then-n-lt10 t c = number_small _ c.if-n-lt10.true _ _ _ _ c.put_byte.ensures

pub returns : goal.returns
returns t c = number_more _ c.if-n-lt10.false _ _ _ _ _ _ (omega arith) c.put_number-next.ensures c.put_number.ensures
