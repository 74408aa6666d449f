-- `answers::put_answer` meets its contract: the text is that of the answer and the bytes that it left.
use native.Mathlib.Omega.{arith}
use Rattle.request_answers.specs.Second.{wish}
use Rattle.request_answers.specs.laws.SheetLaws.{fits_by}
use Rattle.answers.specs.laws.AnswerLaws.{text-is}
use borrow.Author.Rules.{rules}
use Rattle.answers.proofs.put_answer.Statement.{statement}
use Rattle.answers.proofs.put_answer.Tie as tie

put-text-requires : tie.Need-put_text-requires
put-text-requires c κs =
    let a = c.args in
    fits_by (wish a.shape a.request.now) a.sines.now a.room.now _ c.of_shape-answer.ensures.0 _ (omega arith)

returns : tie.Need-returns
returns c =
    let a = c.args in
    let t = text-is a.shape a.request.now a.sines.now a.room.now _ c.of_shape-answer.ensures.0 _ c.of_shape-answer.ensures.1.0 in
    (rw (← t) c.put_text.ensures, (c.of_shape-answer.ensures.1.0, c.of_shape-answer.ensures.1.1.0))

pub put_answer_spec : {M : Type 1} → statement M
put_answer_spec =
    tie.close (tie.spec (λ c κs. search rules) put-text-requires (λ c. search rules) (λ c. search rules) (λ c. search rules) returns)
