-- `ukhtvaresh::texts::typed::ukhtvaresh_typed` meets its contract: the answer of the crate below, as numbers.
use mathlib.Core.Path.{ap, ◌∙◌}
use Rattle.ukhtvaresh.specs.declared.replies.Reply.{Reply}
use Rattle.ukhtvaresh.specs.Typed.{typed_reply}
use borrow.Author.Rules.{rules}
use Rattle.ukhtvaresh.proofs.texts.typed.ukhtvaresh_typed.Statement.{statement}
use Rattle.ukhtvaresh.proofs.texts.typed.ukhtvaresh_typed.Tie as tie

returns : tie.Need-returns
returns c =
    let done = c.store-stored in
    let e = c.typed_reply-reply.ensures ∙ ap typed_reply done.ensures.0 in
    (ap (λ (x : Reply). x.number) e, (ap (λ (x : Reply). x.value) e, done.ensures.1))

pub ukhtvaresh_typed_spec : {M : Type 1} → statement M
ukhtvaresh_typed_spec =
    tie.close
    (tie.spec (λ c κs. search rules) (λ c κs. search rules) (λ c. search rules) (λ c. search rules)
    (λ c. search rules) returns)
