-- `request::run` meets its contract: its text answers every input from which the array can have been read.
use Rattle.program_io.specs.laws.StreamLaws.{to_first, to_second}
use Rattle.request.proofs.run.Goals as goal

pub returns-clause-output : goal.returns-clause-output
returns-clause-output g c = to_first _ _ _ _ _ _ _ c.in_ok-length.ensures.first c.respond-text.ensures.text c.write_text.ensures.output

pub returns-clause-error : goal.returns-clause-error
returns-clause-error g c = to_second _ _ _ _ _ _ _ c.in_ok-length.ensures.first c.respond-text.ensures.text c.write_text.ensures.error
