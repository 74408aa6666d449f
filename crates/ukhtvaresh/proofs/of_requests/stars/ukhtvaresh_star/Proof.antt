-- `ukhtvaresh::of_requests::stars::ukhtvaresh_star` meets its contract: the answer of the crate below, as numbers.
use borrow.Author.Rules.{rules}
use Rattle.requests.specs.Requests.{of_star}
use Rattle.request_format.specs.Input.{star_request_of}
use Rattle.ukhtvaresh.specs.laws.SheetLaws.{replied}
use Rattle.ukhtvaresh.proofs.of_requests.stars.ukhtvaresh_star.Statement.{statement}
use Rattle.ukhtvaresh.proofs.of_requests.stars.ukhtvaresh_star.Tie as tie

returns : tie.Need-returns
returns c =
    let made = c.before.before.before.before.before in
    let request = made.args.request.now in
    replied (of_star (star_request_of request)) c.sheet_reply-reply.ensures made.star_sheet-answer.ensures

pub ukhtvaresh_star_spec : {M : Type 1} → statement M
ukhtvaresh_star_spec =
    tie.close (tie.spec (λ c κs. search rules) (λ c κs. search rules) (λ c. search rules) (λ c. search rules) returns)
