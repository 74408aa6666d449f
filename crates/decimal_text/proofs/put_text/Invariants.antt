-- What is left of the text, once put, gives what is to be left.
use Rattle.decimal_text.specs.laws.PatternLaws.{Copying}
use Rattle.decimal_text.proofs.put_text.Given as goal

abbrev pub invariant-loop-x : goal.invariant-loop-x
invariant-loop-x l = Copying l.initial.out l.start l.text l.out l.at l.x-index
