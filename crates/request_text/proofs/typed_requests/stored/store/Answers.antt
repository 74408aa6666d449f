-- The request in its buffers, or the message in its own.
use Rattle.std.specs.Prelude.{[]}
use Rattle.std.proofs.Common.{sym, ◌∙◌}
use Rattle.request_text.specs.laws.MeaningLaws.{request-answer}
use Rattle.request_text.specs.laws.RoomLaws.{bytes-first}
use Rattle.request_text.specs.laws.StoredLaws.{request-stored, refused_stored}
use Rattle.request_text.proofs.typed_requests.stored.store.Goals as goal

pub slice_bounds-bytes-end : goal.slice_bounds-bytes-end
slice_bounds-bytes-end c =
    (bytes-first _ _ _ _ _ (request-answer _ _ _ (sym c.in-Ok.is ∙ c.ask-outcome.ensures.outcome) []).0 c.ask-outcome.ensures.bytes).counts.0

pub slice_bounds-keep-end : goal.slice_bounds-keep-end
slice_bounds-keep-end c =
    (bytes-first _ _ _ _ _ (request-answer _ _ _ (sym c.in-Ok.is ∙ c.ask-outcome.ensures.outcome) []).0 c.ask-outcome.ensures.bytes).counts.1

pub returns-in-Ok-clause-answer : goal.returns-in-Ok-clause-answer
returns-in-Ok-clause-answer c =
    (request-stored _ _ _ (sym c.in-Ok.is ∙ c.ask-outcome.ensures.outcome) _ _ c.args.request.now c.args.instant.now c.args.message.now c.ask-outcome.ensures.bytes
    _ _ _ (c.keep.ensures.answer, (c.keep.ensures.request, c.keep.ensures.instant))).0

pub returns-in-Ok-clause-request : goal.returns-in-Ok-clause-request
returns-in-Ok-clause-request c =
    (request-stored _ _ _ (sym c.in-Ok.is ∙ c.ask-outcome.ensures.outcome) _ _ c.args.request.now c.args.instant.now c.args.message.now c.ask-outcome.ensures.bytes
    _ _ _ (c.keep.ensures.answer, (c.keep.ensures.request, c.keep.ensures.instant))).1.0

pub returns-in-Ok-clause-instant : goal.returns-in-Ok-clause-instant
returns-in-Ok-clause-instant c =
    (request-stored _ _ _ (sym c.in-Ok.is ∙ c.ask-outcome.ensures.outcome) _ _ c.args.request.now c.args.instant.now c.args.message.now c.ask-outcome.ensures.bytes
    _ _ _ (c.keep.ensures.answer, (c.keep.ensures.request, c.keep.ensures.instant))).1.1.0

pub returns-in-Ok-clause-message : goal.returns-in-Ok-clause-message
returns-in-Ok-clause-message c =
    (request-stored _ _ _ (sym c.in-Ok.is ∙ c.ask-outcome.ensures.outcome) _ _ c.args.request.now c.args.instant.now c.args.message.now c.ask-outcome.ensures.bytes
    _ _ _ (c.keep.ensures.answer, (c.keep.ensures.request, c.keep.ensures.instant))).1.1.1

pub returns-in-Err-clause-answer : goal.returns-in-Err-clause-answer
returns-in-Err-clause-answer c =
    (refused_stored _ _ (sym c.in-Err.is ∙ c.ask-outcome.ensures.outcome) c.args.request.now c.args.instant.now c.args.message.now _ c.explain.ensures.answer).0

pub returns-in-Err-clause-request : goal.returns-in-Err-clause-request
returns-in-Err-clause-request c =
    (refused_stored _ _ (sym c.in-Err.is ∙ c.ask-outcome.ensures.outcome) c.args.request.now c.args.instant.now c.args.message.now _ c.explain.ensures.answer).1.0

pub returns-in-Err-clause-instant : goal.returns-in-Err-clause-instant
returns-in-Err-clause-instant c =
    (refused_stored _ _ (sym c.in-Err.is ∙ c.ask-outcome.ensures.outcome) c.args.request.now c.args.instant.now c.args.message.now _ c.explain.ensures.answer).1.1
