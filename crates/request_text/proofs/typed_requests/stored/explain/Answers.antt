-- The message is measured in a buffer of no bytes, and put where the buffer holds it.
use Rattle.std.specs.Prelude.{ℕ, Err}
use Rattle.std.proofs.Common.{◌∙◌}
use Rattle.std.proofs.Math.Path.{ap}
use Rattle.request_text.specs.declared.typed_requests.stored.NotStored.TheVariants as NotStored
use Rattle.request_text.specs.laws.StoredLaws.{message-short, message-kept}
use Rattle.request_text.proofs.typed_requests.stored.explain.Goals as goal

pub returns-then-message-need-clause-answer : goal.returns-then-message-need-clause-answer
returns-then-message-need-clause-answer c =
    (message-short _ _ c.requires c.args.message.now _ _ _ c.put_reason-need.ensures.text c.put_reason-need.ensures.size c.if-message-need.true).0

pub returns-then-message-need-clause-message : goal.returns-then-message-need-clause-message
returns-then-message-need-clause-message c =
    (message-short _ _ c.requires c.args.message.now _ _ _ c.put_reason-need.ensures.text c.put_reason-need.ensures.size c.if-message-need.true).1

pub returns-clause-answer : goal.returns-clause-answer
returns-clause-answer c =
    ap (λ (n : ℕ). Err (NotStored.Fault n)) c.line_of-line.ensures
    ∙ (message-kept _ _ c.requires c.args.message.now _ _ _ c.put_reason-need.ensures.text c.put_reason-need.ensures.size
    c.if-message-need.false _ _ c.put_reason.ensures.text).0

pub returns-clause-message : goal.returns-clause-message
returns-clause-message c =
    (message-kept _ _ c.requires c.args.message.now _ _ _ c.put_reason-need.ensures.text c.put_reason-need.ensures.size
    c.if-message-need.false _ _ c.put_reason.ensures.text).1
