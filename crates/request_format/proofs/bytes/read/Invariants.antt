-- The loop of `request_format::bytes::read`: the numbers before number k are read, from the bytes before `at`.
use Rattle.request_format.specs.laws.GetLaws.{Getting}
use Rattle.request_format.proofs.bytes.read.Given as goal

abbrev pub invariant-loop-k : goal.invariant-loop-k
invariant-loop-k l = Getting l.shape l.bytes l.found l.at l.k
