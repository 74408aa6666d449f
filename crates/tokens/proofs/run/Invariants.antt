-- The bytes passed are of the class, and what is left decides how many more are.
use Rattle.tokens.specs.laws.TextLaws.{Ran}
use Rattle.tokens.proofs.run.Given as goal

abbrev pub invariant-loop-n : goal.invariant-loop-n
invariant-loop-n l = Ran l.class l.s l.n
