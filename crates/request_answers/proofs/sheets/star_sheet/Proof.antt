-- `request_answers::sheets::star_sheet` meets its contract: it is the sheet of a star's bytes.
use borrow.Author.Rules.{rules}
use Rattle.request_answers.specs.Sheet.{star_answer, star_buffer, star_sines}
use Rattle.request_answers.proofs.sheets.star_sheet.Statement.{statement}
use Rattle.request_answers.proofs.sheets.star_sheet.Tie as tie

returns : tie.Need-returns
unfolding star_answer star_buffer star_sines
returns c = c.of_shape.ensures

pub star_sheet_spec : {M : Type 1} → statement M
star_sheet_spec = tie.close (tie.spec (λ c κs. search rules) (λ c. search rules) (λ c. search rules) returns)
