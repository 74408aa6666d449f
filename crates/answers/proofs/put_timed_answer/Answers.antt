-- `answers::put_timed_answer` meets its contract: it is the answer to an eclipse's bytes.
use Rattle.request_answers.specs.Sheet.{answer_to, buffer_for, sines_for}
use Rattle.answers.specs.Answers.{timed_text}
use Rattle.answers.proofs.put_timed_answer.Goals as goal

pub returns-clause-text : goal.returns-clause-text
unfolding timed_text answer_to buffer_for
returns-clause-text c = c.put_timed.ensures.text

pub returns-clause-sheet : goal.returns-clause-sheet
unfolding buffer_for
returns-clause-sheet c = c.put_timed.ensures.sheet

pub returns-clause-sines : goal.returns-clause-sines
unfolding sines_for
returns-clause-sines c = c.put_timed.ensures.sines
