-- the digits before the next one give the number
use Rattle.table_elements.specs.NumberLaws.{Appending}
use Rattle.table_elements.proofs.typed_rows.size_of.Given as goal

abbrev pub invariant-loop-x : goal.invariant-loop-x
invariant-loop-x l = Appending l.digits l.n l.x-index
