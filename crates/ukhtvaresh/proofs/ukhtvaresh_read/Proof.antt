-- `ukhtvaresh::ukhtvaresh_read` meets its contract: the answer of the crate below, as numbers.
use mathlib.Core.Path.{ap, ◌∙◌}
use borrow.Author.Rules.{rules}
use Rattle.ukhtvaresh.specs.declared.replies.Reply.{Reply}
use Rattle.ukhtvaresh.specs.Replies.{read_reply}
use Rattle.ukhtvaresh.proofs.ukhtvaresh_read.Statement.{statement}
use Rattle.ukhtvaresh.proofs.ukhtvaresh_read.Tie as tie

returns : tie.Need-returns
returns c =
    let done = c.read-extent in
    let e = c.read_reply-reply.ensures ∙ ap read_reply done.ensures.0 in
    (ap (λ (x : Reply). x.number) e, (ap (λ (x : Reply). x.value) e, done.ensures.1))

pub ukhtvaresh_read_spec : {M : Type 1} → statement M
ukhtvaresh_read_spec = tie.close (tie.spec (λ c κs. search rules) (λ c κs. search rules) (λ c. search rules) returns)
