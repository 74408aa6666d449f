-- `ukhtvaresh::of_requests::shares::ukhtvaresh_sheet_and_share` meets its contract: the answer of the crate below, as
-- numbers.
use borrow.Author.Rules.{rules}
use Rattle.requests.specs.Requests.{of_eclipse}
use Rattle.requests.specs.Shares.{with_share}
use Rattle.request_format.specs.Input.{request_of}
use Rattle.ukhtvaresh.specs.laws.SheetLaws.{replied}
use Rattle.ukhtvaresh.proofs.of_requests.shares.ukhtvaresh_sheet_and_share.Statement.{statement}
use Rattle.ukhtvaresh.proofs.of_requests.shares.ukhtvaresh_sheet_and_share.Tie as tie

returns : tie.Need-returns
returns c =
    let made = c.before.before.before.before.before in
    let request = made.args.request.now in
    replied (of_eclipse (with_share (request_of request))) c.sheet_reply-reply.ensures made.sheet_and_share-answer.ensures

pub ukhtvaresh_sheet_and_share_spec : {M : Type 1} → statement M
ukhtvaresh_sheet_and_share_spec =
    tie.close (tie.spec (λ c κs. search rules) (λ c κs. search rules) (λ c. search rules) (λ c. search rules) returns)
