-- The loop of `request_text::complete`: the fields before field k are given.
use Rattle.request_text.specs.laws.TypingLaws.{Given}
use Rattle.request_text.proofs.complete.Given as goal

abbrev pub invariant-loop-k : goal.invariant-loop-k
invariant-loop-k l = Given l.marks l.k
