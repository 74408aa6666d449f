-- The digits left, appended to what there is, give the whole number, up to the cap.
use Rattle.tokens.specs.laws.NumberLaws.{Appended}
use Rattle.tokens.proofs.append.Given as goal

abbrev pub invariant-loop-k : goal.invariant-loop-k
invariant-loop-k l = Appended l.initial.total l.s l.digits l.total l.k
