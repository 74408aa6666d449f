-- `answers::timed::of_shape` meets its contract: the text is that of the answer, the bytes that it left and the
-- request's ΔT.
use Rattle.std.proofs.Common.{◌∙◌, arith}
use Rattle.rounding.specs.laws.Code.{read_result}
use Rattle.request_answers.specs.Second.{wish}
use Rattle.request_answers.specs.laws.SheetLaws.{fits_by}
use Rattle.answers.specs.laws.TimedLaws.{told_is}
use Rattle.answers.proofs.timed.of_shape.Goals as goal

pub lay-requires : goal.lay-requires
lay-requires c = fits_by (wish c.args.shape c.args.request.now) _ _ _ c.of_shape-answer.ensures.answer _ (omega arith)

pub returns : goal.returns
returns c =
    let d = c.deltat_of-deltat in
    let s = c.of_shape-answer.ensures in
    let t = told_is _ _ _ _ _ c.args.reference _ _ c.args.shape s.answer s.buffer (read_result d.result d.type_inv ∙ d.ensures) c.sky_of-sky.ensures in
    let l = c.lay.ensures in
    (rw (← t) l.0, (rw (← t) l.1, (s.buffer, s.sines)))
