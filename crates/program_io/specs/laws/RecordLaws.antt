-- What follows a record is shorter than the input, so a loop over records ends.
use Rattle.std.specs.Prelude.{ℕ, ◌+◌, ◌<◌, List, length}
use Rattle.std.proofs.Common.{arith, ap, length-drop}
use Rattle.program_io.specs.Records.{Begins, record_size}

pub rest_shorter : {input : List ℕ} {letter : ℕ} {bytes rest : List ℕ} → Begins input letter bytes rest → length rest < length input
rest_shorter {input = input} b = omega (arith, b.whole, ap length b.is_rest, length-drop (3 + record_size input) input)
