use Rattle.decimal_text.specs.laws.PatternLaws.{copying-turn, copying-end}
use Rattle.decimal_text.proofs.put_text.Goals as goal

pub loop-x-preserved : goal.loop-x-preserved
loop-x-preserved c = copying-turn _ _ _ _ _ _ c.loop-x.invariant c.loop-x-test.true _ _ c.put_byte-at.ensures

pub returns : goal.returns
returns c = copying-end _ _ _ _ _ _ c.loop-x.invariant c.loop-x-test.false
