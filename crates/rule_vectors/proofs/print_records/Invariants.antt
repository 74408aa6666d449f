-- each record takes bytes off the rest
use Rattle.std.proofs.Common.{length}
use Rattle.rule_vectors.proofs.print_records.Given as goal

abbrev pub decreases-loop-record : goal.decreases-loop-record
decreases-loop-record g l = length l.rest
