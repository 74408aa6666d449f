-- `sheet_vectors::print_records` ends: what follows a record is shorter.
use Rattle.program_io.specs.laws.RecordLaws.{rest_shorter}
use Rattle.sheet_vectors.proofs.print_records.Goals as goal

pub loop-record-smaller : goal.loop-record-smaller
loop-record-smaller g c = rest_shorter c.in-Some.ensures
