-- `ukhtvaresh::of_requests::positions::ukhtvaresh_sheet_of_doubles` meets its contract: the answer of `survey`, as
-- numbers.
use borrow.Author.Rules.{rules}
use Rattle.requests.specs.Requests.{of_eclipse}
use Rattle.float_requests.specs.Survey.{request_of}
use Rattle.float_requests.specs.Handed.{survey_of}
use Rattle.ukhtvaresh.specs.laws.SheetLaws.{replied}
use Rattle.ukhtvaresh.proofs.of_requests.positions.ukhtvaresh_sheet_of_doubles.Statement.{statement}
use Rattle.ukhtvaresh.proofs.of_requests.positions.ukhtvaresh_sheet_of_doubles.Tie as tie

returns : tie.Need-returns
returns c =
    let made = c.before.before.before.before.before in
    let a = made.args in
    replied (of_eclipse (request_of (survey_of a.elements.now a.longitude a.hours a.rest.now))) c.sheet_reply-reply.ensures made.sheet-answer.ensures

pub ukhtvaresh_sheet_of_doubles_spec : {M : Type 1} → statement M
ukhtvaresh_sheet_of_doubles_spec =
    tie.close (tie.spec (λ c κs. search rules) (λ c κs. search rules) (λ c. search rules) (λ c. search rules) returns)
