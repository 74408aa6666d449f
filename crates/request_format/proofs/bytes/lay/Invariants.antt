-- The loop of `request_format::bytes::lay`: the numbers before number k are put, in the bytes before `at`.
use Rattle.request_format.specs.laws.PutLaws.{Putting}
use Rattle.request_format.proofs.bytes.lay.Given as goal

abbrev pub invariant-loop-k : goal.invariant-loop-k
invariant-loop-k l = Putting l.shape l.numbers l.out l.at l.k
