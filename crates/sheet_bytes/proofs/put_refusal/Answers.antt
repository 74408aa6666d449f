-- `sheet_bytes::put_refusal` meets its contract: the array holds the line of any refusal.
use Rattle.std.proofs.Common.{arith}
use Rattle.sheet_bytes.specs.laws.StreamLaws.{line-whole}
use Rattle.sheet_bytes.proofs.put_refusal.Goals as goal

pub returns-clause-line : goal.returns-clause-line
returns-clause-line c = (line-whole _ _ _ _ _ (omega arith) (omega arith) (omega arith) c.put_refused.ensures).0

pub returns-clause-counts : goal.returns-clause-counts
returns-clause-counts c = (line-whole _ _ _ _ _ (omega arith) (omega arith) (omega arith) c.put_refused.ensures).1
