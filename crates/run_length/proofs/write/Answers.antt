-- One byte is put after the others, or two.
use Rattle.std.proofs.Common.{arith}
use Rattle.run_length.specs.laws.RunsLaws.{written_one}
use Rattle.run_length.proofs.write.Goals as goal

pub returns-then-f-eq1 : goal.returns-then-f-eq1
returns-then-f-eq1 c =
    let p = c.requires in
    written_one _ _ _ _ p.1.pair p.1.whole c.if-f-eq1.true (omega arith)
