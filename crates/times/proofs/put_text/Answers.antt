-- `times::put_text` meets its contract: the test of the length is the definition's.
use Rattle.times.specs.laws.PrintedLaws.{star-put, eclipse-put}
use Rattle.times.proofs.put_text.Goals as goal

pub returns-then-request-eq-STAR_LENGTH : goal.returns-then-request-eq-STAR_LENGTH
returns-then-request-eq-STAR_LENGTH c = star-put _ _ _ _ c.if-request-eq-STAR_LENGTH.true c.put_timed_star_answer.ensures.text

pub returns : goal.returns
returns c = eclipse-put _ _ _ _ c.if-request-eq-STAR_LENGTH.false c.put_timed_answer.ensures.text
