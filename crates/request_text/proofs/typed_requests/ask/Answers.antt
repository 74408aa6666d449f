-- The first invalid line decides, and the bytes are taken only where there is none.
use Rattle.std.specs.Prelude.{◌≡◌, Err}
use Rattle.std.proofs.Common.{rules, arith, sym, ◌∙◌}
use Rattle.request_text.specs.laws.MeaningLaws.{long-outcome, short-outcome, request-bytes, refused-bytes}
use Rattle.request_text.proofs.typed_requests.ask.Goals as goal

pub returns-then-text-gt65536-clause-outcome : goal.returns-then-text-gt65536-clause-outcome
returns-then-text-gt65536-clause-outcome c = long-outcome _ c.if-text-gt65536.true

pub returns-then-text-gt65536-clause-bytes : goal.returns-then-text-gt65536-clause-bytes
returns-then-text-gt65536-clause-bytes c = refused-bytes _ _ (long-outcome _ c.if-text-gt65536.true) _

pub returns-in_err-request-clause-outcome : goal.returns-in_err-request-clause-outcome
returns-in_err-request-clause-outcome c =
    let told : c.from_residual.result ≡ Err c.in_err-request.field-0.0 = search rules in
    told ∙ sym c.in_err-request.was
    ∙ short-outcome _ (omega arith) _ c.shape_of-shape.ensures _ c.encode-typed.ensures.answer _ c.told_in-told.ensures _ c.length_of-size.ensures _ c.first_of.ensures

pub returns-in_err-request-clause-bytes : goal.returns-in_err-request-clause-bytes
returns-in_err-request-clause-bytes c =
    refused-bytes _ _
    (sym c.in_err-request.was
    ∙ short-outcome _ (omega arith) _ c.shape_of-shape.ensures _ c.encode-typed.ensures.answer _ c.told_in-told.ensures _ c.length_of-size.ensures _ c.first_of.ensures)
    _

pub returns-clause-outcome : goal.returns-clause-outcome
returns-clause-outcome c =
    sym c.in_ok-request.was
    ∙ short-outcome _ (omega arith) _ c.shape_of-shape.ensures _ c.encode-typed.ensures.answer _ c.told_in-told.ensures _ c.length_of-size.ensures _ c.first_of.ensures

pub returns-clause-bytes : goal.returns-clause-bytes
returns-clause-bytes c =
    request-bytes _ _ c.shape_of-shape.ensures _ _
    (sym c.in_ok-request.was
    ∙ short-outcome _ (omega arith) _ c.shape_of-shape.ensures _ c.encode-typed.ensures.answer _ c.told_in-told.ensures _ c.length_of-size.ensures _ c.first_of.ensures)
    _ _ c.encode-typed.ensures.bytes
