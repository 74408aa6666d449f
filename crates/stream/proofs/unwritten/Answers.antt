-- `stream::unwritten` meets its contract: the array holds the line.
use Rattle.std.proofs.Common.{arith}
use Rattle.stream.specs.laws.LineLaws.{unwritten_whole}
use Rattle.stream.proofs.unwritten.Goals as goal

pub returns-clause-text : goal.returns-clause-text
returns-clause-text c = (unwritten_whole _ _ _ _ _ (omega arith) (omega arith) (omega arith) c.put_unwritten.ensures).0

pub returns-clause-counts : goal.returns-clause-counts
returns-clause-counts c = (unwritten_whole _ _ _ _ _ (omega arith) (omega arith) (omega arith) c.put_unwritten.ensures).1
