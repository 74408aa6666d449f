-- the line keeps its length
use Rattle.std.proofs.Common.{length, ◌≡◌}
use Rattle.sheet_vectors.proofs.put_bytes.Given as goal

abbrev pub invariant-loop-byte : goal.invariant-loop-byte
invariant-loop-byte l = length l.line ≡ length l.fn.line
