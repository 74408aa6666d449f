-- `answers::put_timed_star_answer` meets its contract: it is the answer to a star's bytes.
use Rattle.request_answers.specs.Sheet.{star_answer, star_buffer, star_sines}
use Rattle.answers.specs.Answers.{star_timed_text}
use Rattle.answers.proofs.put_timed_star_answer.Goals as goal

pub returns-clause-text : goal.returns-clause-text
unfolding star_timed_text star_answer star_buffer
returns-clause-text c = c.put_timed.ensures.text

pub returns-clause-sheet : goal.returns-clause-sheet
unfolding star_buffer
returns-clause-sheet c = c.put_timed.ensures.sheet

pub returns-clause-sines : goal.returns-clause-sines
unfolding star_sines
returns-clause-sines c = c.put_timed.ensures.sines
