-- `ukhtvaresh::of_requests::positions::ukhtvaresh_doubles` meets its contract: the answer of `instrument`, as numbers.
use mathlib.Core.Path.{ap, ◌∙◌}
use borrow.Author.Rules.{rules}
use Rattle.ukhtvaresh.specs.declared.replies.Reply.{Reply}
use Rattle.ukhtvaresh.specs.Positions.{doubles_reply}
use Rattle.ukhtvaresh.proofs.of_requests.positions.ukhtvaresh_doubles.Statement.{statement}
use Rattle.ukhtvaresh.proofs.of_requests.positions.ukhtvaresh_doubles.Tie as tie

returns : tie.Need-returns
returns c =
    let done = c.write-answer in
    let e = c.doubles_reply-reply.ensures ∙ ap doubles_reply done.ensures.0 in
    (ap (λ (x : Reply). x.number) e, (ap (λ (x : Reply). x.value) e, done.ensures.1))

pub ukhtvaresh_doubles_spec : {M : Type 1} → statement M
ukhtvaresh_doubles_spec =
    tie.close (tie.spec (λ c κs. search rules) (λ c κs. search rules) (λ c. search rules) returns)
