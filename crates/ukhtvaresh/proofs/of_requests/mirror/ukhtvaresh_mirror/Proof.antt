-- `ukhtvaresh::of_requests::mirror::ukhtvaresh_mirror` meets its contract: the answer of the crate below, as numbers.
use mathlib.Core.Path.{ap, ◌∙◌}
use borrow.Author.Rules.{rules}
use Rattle.ukhtvaresh.specs.declared.replies.Reply.{Reply}
use Rattle.ukhtvaresh.specs.Replies.{sheet_reply}
use Rattle.ukhtvaresh.proofs.of_requests.mirror.ukhtvaresh_mirror.Statement.{statement}
use Rattle.ukhtvaresh.proofs.of_requests.mirror.ukhtvaresh_mirror.Tie as tie

returns : tie.Need-returns
returns c =
    let done = c.mirror_bytes-answer in
    let e = c.sheet_reply-reply.ensures ∙ ap sheet_reply done.ensures.0 in
    (ap (λ (x : Reply). x.number) e, (ap (λ (x : Reply). x.value) e, done.ensures.1))

pub ukhtvaresh_mirror_spec : {M : Type 1} → statement M
ukhtvaresh_mirror_spec =
    tie.close (tie.spec (λ c κs. search rules) (λ c κs. search rules) (λ c. search rules) returns)
