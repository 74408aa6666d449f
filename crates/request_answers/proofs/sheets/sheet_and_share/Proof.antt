-- `request_answers::sheets::sheet_and_share` meets its contract: it is the sheet of that request with a share asked
-- for.
use mathlib.Core.Path.{ap, ◌∙◌}
use borrow.Author.Rules.{rules}
use Rattle.request_format.specs.Input.{sharing, eclipse_asked}
use Rattle.request_answers.specs.laws.SheetLaws.{promised-shared}
use Rattle.request_answers.proofs.sheets.sheet_and_share.Statement.{statement}
use Rattle.request_answers.proofs.sheets.sheet_and_share.Tie as tie

returns : tie.Need-returns
returns c =
    let made = c.before.before.before.before in
    let asked = made.before.before.before in
    let shared = asked.with_share.ensures ∙ ap sharing asked.request.ensures in
    promised-shared _ _ _ _ _ _ (rw (asked.of_eclipse-asked.ensures ∙ ap eclipse_asked shared) at made.sheet_for.ensures)

pub sheet_and_share_spec : {M : Type 1} → statement M
sheet_and_share_spec =
    tie.close (tie.spec (λ c κs. search rules) (λ c κs. search rules) (λ c κs. search rules) (λ c κs. search rules) (λ c. search rules) (λ c. search rules) returns)
