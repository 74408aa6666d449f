-- `request_answers::sheets::of_shape` meets its contract: it is the sheet of what bytes of that shape ask for.
use borrow.Author.Rules.{rules}
use Rattle.request_answers.specs.laws.SheetLaws.{promised}
use Rattle.request_answers.proofs.sheets.of_shape.Statement.{statement}
use Rattle.request_answers.proofs.sheets.of_shape.Tie as tie

returns : tie.Need-returns
returns c =
    let made = c.before.before.before.before in
    let asked = made.before.before.before in
    promised _ _ _ asked.args.shape _ _ _ (rw asked.wish-asked.ensures at made.sheet_for.ensures)

pub of_shape_spec : {M : Type 1} → statement M
of_shape_spec = tie.close (tie.spec (λ c κs. search rules) (λ c κs. search rules) (λ c. search rules) (λ c. search rules) returns)
