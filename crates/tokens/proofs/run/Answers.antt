use Rattle.std.proofs.Common.{◌≡◌, ◌∙◌, sym, length, arith}
use Rattle.tokens.specs.laws.TextLaws.{ran_out, ran-more, ran-all}
use Rattle.tokens.proofs.run.Goals as goal

pub returns-then-not-is_in : goal.returns-then-not-is_in
returns-then-not-is_in c = ran_out _ _ _ c.loop-n.invariant c.loop-n-test.true (sym c.is_in.ensures ∙ c.if-not-is_in.true)

pub loop-n-preserved : goal.loop-n-preserved
loop-n-preserved c = ran-more _ _ _ c.loop-n.invariant c.loop-n-test.true (sym c.is_in.ensures ∙ c.if-not-is_in.false)

pub returns : goal.returns
returns c =
    let e : c.loop-n.n ≡ length c.args.s.now = omega arith in
    rw e at (ran-all _ _ _ c.loop-n.invariant c.loop-n-test.false)
