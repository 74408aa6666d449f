-- What is left of the pattern, once put, gives what is to be left.
use Rattle.decimal_text.specs.laws.PatternLaws.{Filling}
use Rattle.decimal_text.proofs.put_filled.Given as goal

abbrev pub invariant-loop-x : goal.invariant-loop-x
invariant-loop-x l = Filling l.initial.out l.start l.pattern l.numbers l.out l.at l.k l.x-index
