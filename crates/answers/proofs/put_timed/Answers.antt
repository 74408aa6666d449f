-- `answers::put_timed` meets its contract: the text is that of the answer, the bytes that it left and the request's ΔT.
use Rattle.std.proofs.Common.{◌∙◌, arith}
use Rattle.rounding.specs.laws.Code.{read_result}
use Rattle.request_answers.specs.Second.{wish}
use Rattle.request_answers.specs.laws.SheetLaws.{fits_by}
use Rattle.answers.specs.laws.AnswerLaws.{timed-is}
use Rattle.answers.proofs.put_timed.Goals as goal

pub put_text-requires : goal.put_text-requires
put_text-requires c = fits_by (wish c.args.shape c.args.request.now) _ _ _ c.of_shape-answer.ensures.answer _ (omega arith)

pub returns-clause-text : goal.returns-clause-text
returns-clause-text c =
    let d = c.deltat_of-deltat in
    let t = timed-is c.args.shape _ _ _ _ c.of_shape-answer.ensures.answer _ c.of_shape-answer.ensures.buffer c.args.reference _ _ (read_result d.result d.type_inv ∙ d.ensures) c.sky_of-sky.ensures in
    rw (← t) c.put_text.ensures
