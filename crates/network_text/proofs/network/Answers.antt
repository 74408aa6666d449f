-- What was read is handed over where there is no fault; else nothing is touched.
use Rattle.std.proofs.Common.{sym, ◌∙◌}
use Rattle.network_text.specs.laws.TypingLaws.{network-typed, network-refused}
use Rattle.network_text.proofs.network.Goals as goal

pub returns-then-is_ok-clause-answer_value : goal.returns-then-is_ok-clause-answer_value
returns-then-is_ok-clause-answer_value c =
    (network-typed _ _ _ _ c.args.out.now c.read-reading.ensures (sym c.is_ok.ensures.value ∙ c.if-is_ok.true) _ c.eclipse_in.ensures).0

pub returns-clause-answer_value : goal.returns-clause-answer_value
returns-clause-answer_value c =
    rw c.empty-held.ensures (network-refused _ _ _ _ c.args.out.now c.read-reading.ensures (sym c.is_ok.ensures.value ∙ c.if-is_ok.false)).0
