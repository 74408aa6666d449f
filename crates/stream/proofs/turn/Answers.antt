-- `stream::turn` meets its contract: what is reported is reported of request count + 1, at the byte where it begins.
use Rattle.std.proofs.Common.{arith}
use Rattle.stream.specs.laws.LineLaws.{told_cut}
use Rattle.stream.proofs.turn.Goals as goal

pub returns-clause-error : goal.returns-clause-error
returns-clause-error c = (told_cut _ _ _ _ _ _ _ _ _ _ c.after-count.ensures (omega arith) c.step-step.ensures.error c.clipped-error.ensures.value).0
