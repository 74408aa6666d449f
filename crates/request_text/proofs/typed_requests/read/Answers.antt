-- The bytes and the instant, or the message of the first fault.
use Rattle.std.proofs.Common.{arith, sym, ◌∙◌}
use Rattle.request_text.specs.laws.MeaningLaws.{request-answer, refused-answer}
use Rattle.request_text.proofs.typed_requests.read.Goals as goal

pub returns-in-Ok-clause-answer : goal.returns-in-Ok-clause-answer
returns-in-Ok-clause-answer c = (request-answer _ _ _ (sym c.in-Ok.is ∙ c.ask-outcome.ensures.outcome) c.args.message.now).0

pub returns-in-Ok-clause-message : goal.returns-in-Ok-clause-message
returns-in-Ok-clause-message c = (request-answer _ _ _ (sym c.in-Ok.is ∙ c.ask-outcome.ensures.outcome) c.args.message.now).1

pub returns-in-Err-clause-answer : goal.returns-in-Err-clause-answer
returns-in-Err-clause-answer c =
    (refused-answer _ _ (sym c.in-Err.is ∙ c.ask-outcome.ensures.outcome) c.put_reason-end.ensures.size _ _ _ (omega arith)
    c.put_reason-end.ensures.text).0

pub returns-in-Err-clause-message : goal.returns-in-Err-clause-message
returns-in-Err-clause-message c =
    (refused-answer _ _ (sym c.in-Err.is ∙ c.ask-outcome.ensures.outcome) c.put_reason-end.ensures.size _ _ _ (omega arith)
    c.put_reason-end.ensures.text).1
