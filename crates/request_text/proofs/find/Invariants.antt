-- The loop of `request_text::find`: the names before name k are not said.
use Rattle.request_text.specs.laws.NameLaws.{Finding}
use Rattle.request_text.proofs.find.Given as goal

abbrev pub invariant-loop-k : goal.invariant-loop-k
invariant-loop-k l = Finding l.shape l.said l.k
