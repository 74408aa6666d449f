-- the lines of the stations before the k-th are put
use Rattle.decimal_text.specs.laws.RowLaws.{Rows}
use Rattle.network.specs.laws.PrintedLaws.{line_at}
use Rattle.network.proofs.put_stations.Given as goal

abbrev pub invariant-loop-k : goal.invariant-loop-k
invariant-loop-k l = Rows (line_at l.fn.h.nodes l.n l.steps) l.n l.fn.out 0 l.out l.at l.k
