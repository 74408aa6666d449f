-- `answers::put_printed` meets its contract: the buffers are those of a program.
use borrow.Author.Rules.{rules}
use Rattle.answers.specs.laws.AnswerLaws.{printed-is}
use Rattle.answers.proofs.put_printed.Statement.{statement}
use Rattle.answers.proofs.put_printed.Tie as tie

returns : tie.Need-returns
returns c =
    let rooms = c.before.before.before.before.before.before.before.before in
    let a = rooms.args in
    rw (← printed-is a.shape a.request.now _ _ rooms.sines_room-sines.ensures rooms.sheet_room-room.ensures)
    c.put_answer.ensures.0

pub put_printed_spec : {M : Type 1} → statement M
put_printed_spec =
    tie.close
    (tie.spec (λ c κs. search rules) (λ c κs. search rules) (λ c. search rules) (λ c. search rules)
    (λ c κs. search rules) (λ c. search rules) returns)
