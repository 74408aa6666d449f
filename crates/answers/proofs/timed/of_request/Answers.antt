-- `answers::timed::of_request` meets its contract: a star's request by its length.
use Rattle.answers.specs.laws.TimedLaws.{timed-star, timed-eclipse}
use Rattle.answers.proofs.timed.of_request.Goals as goal

pub returns-then-request-eq-STAR_LENGTH : goal.returns-then-request-eq-STAR_LENGTH
returns-then-request-eq-STAR_LENGTH c =
    let a = c.args in
    timed-star a.request.now a.sines.now a.room.now a.out.now a.reference _ _ _ _ c.if-request-eq-STAR_LENGTH.true c.of_shape.ensures

pub returns : goal.returns
returns c =
    let a = c.args in
    timed-eclipse a.request.now a.sines.now a.room.now a.out.now a.reference _ _ _ _ c.if-request-eq-STAR_LENGTH.false c.of_shape-2.ensures
