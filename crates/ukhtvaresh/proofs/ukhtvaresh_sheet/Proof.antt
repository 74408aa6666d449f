-- `ukhtvaresh::ukhtvaresh_sheet` meets its contract: the answer of the crate below, as numbers.
use borrow.Author.Rules.{rules}
use Rattle.requests.specs.Requests.{of_eclipse}
use Rattle.request_format.specs.Input.{request_of}
use Rattle.ukhtvaresh.specs.laws.SheetLaws.{replied}
use Rattle.ukhtvaresh.proofs.ukhtvaresh_sheet.Statement.{statement}
use Rattle.ukhtvaresh.proofs.ukhtvaresh_sheet.Tie as tie

returns : tie.Need-returns
returns c =
    let made = c.before.before.before.before.before in
    let request = made.args.request.now in
    replied (of_eclipse (request_of request)) c.sheet_reply-reply.ensures made.sheet-answer.ensures

pub ukhtvaresh_sheet_spec : {M : Type 1} → statement M
ukhtvaresh_sheet_spec =
    tie.close (tie.spec (λ c κs. search rules) (λ c κs. search rules) (λ c. search rules) (λ c. search rules) returns)
