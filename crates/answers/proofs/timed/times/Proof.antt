-- `answers::timed::times` meets its contract: a refusal of the instant, or the answer to the request.
use Rattle.answers.specs.laws.TimedLaws.{instant-misshaped, number-wrong, number-right}
use borrow.Author.Rules.{rules}
use Rattle.answers.proofs.timed.times.Statement.{statement}
use Rattle.answers.proofs.timed.times.Tie as tie

returns : tie.Need-returns-then-instant-ne6
returns c =
    let a = c.args in
    instant-misshaped a.request.now a.sines.now a.room.now a.out.now a.instant.now c.if-instant-ne6.true

returns-2 : tie.Need-returns-in-Err
returns-2 c =
    let found = c in
    let tested = found.before.before.before.before.before.before.before.before in
    let a = tested.args in
    number-wrong a.request.now a.sines.now a.room.now a.out.now a.instant.now tested.if-instant-ne6.false _
    found.reference_of-numbered.ensures _ found.in-Err.is

returns-3 : tie.Need-returns-in-Ok
returns-3 c =
    let answered = c.before.before.before.before.before.before in
    let found = answered.before.before.before.before in
    let tested = found.before.before.before.before.before.before.before.before in
    let a = tested.args in
    number-right a.request.now a.sines.now a.room.now a.out.now a.instant.now tested.if-instant-ne6.false _
    found.reference_of-numbered.ensures _ found.in-Ok.is _ _ _ _ answered.of_request.ensures

pub times_spec : {M : Type 1} → statement M
times_spec =
    tie.close
    (tie.spec returns (λ c. search rules) (λ c. search rules) (λ c. search rules) (λ c. search rules)
    (λ c. search rules) (λ c. search rules) (λ c κs. search rules) (λ c. search rules) (λ c. search rules)
    (λ c κs. search rules) returns-2 (λ c. search rules) (λ c. search rules) (λ c. search rules) returns-3)
