-- `request_answers::sheets::sheet` meets its contract: it is the sheet of an eclipse's bytes.
use borrow.Author.Rules.{rules}
use Rattle.request_answers.specs.Sheet.{answer_to, buffer_for, sines_for}
use Rattle.request_answers.proofs.sheets.sheet.Statement.{statement}
use Rattle.request_answers.proofs.sheets.sheet.Tie as tie

returns : tie.Need-returns
unfolding answer_to buffer_for sines_for
returns c = c.of_shape.ensures

pub sheet_spec : {M : Type 1} → statement M
sheet_spec = tie.close (tie.spec (λ c κs. search rules) (λ c. search rules) (λ c. search rules) returns)
