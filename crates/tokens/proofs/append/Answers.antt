use Rattle.tokens.specs.laws.NumberLaws.{append-more, append-all}
use Rattle.tokens.proofs.append.Goals as goal

pub loop-k-preserved : goal.loop-k-preserved
loop-k-preserved c =
    append-more _ _ _ _ _ _ _ c.loop-k.invariant c.loop-k-test.true c.byte_or_zero.ensures c.with_digit-total.ensures

pub returns : goal.returns
returns c = append-all _ _ _ _ _ c.loop-k.invariant c.loop-k-test.false
