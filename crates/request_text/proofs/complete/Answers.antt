-- `request_text::complete` meets its contract: the fields passed are given (`Given`).
use Rattle.std.proofs.Common.{refl}
use Rattle.request_text.specs.laws.TypingLaws.{given-not, given-more, given-all}
use Rattle.request_text.proofs.complete.Goals as goal

pub loop-k-init : goal.loop-k-init
loop-k-init c = refl

pub returns-then-mark-eq0 : goal.returns-then-mark-eq0
returns-then-mark-eq0 c = given-not _ _ c.loop-k.invariant c.loop-k-test.true c.if-mark-eq0.true

pub loop-k-preserved : goal.loop-k-preserved
loop-k-preserved c = given-more _ _ c.loop-k.invariant c.loop-k-test.true c.if-mark-eq0.false

pub returns : goal.returns
returns c = given-all _ _ c.loop-k.invariant c.loop-k-test.false
