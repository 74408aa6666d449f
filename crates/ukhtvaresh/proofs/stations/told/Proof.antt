-- `ukhtvaresh::stations::told` meets its contract: the answer of `network`, as numbers.
use mathlib.Core.Path.{ap, ◌∙◌}
use borrow.Author.Rules.{rules}
use Rattle.ukhtvaresh.specs.declared.replies.Reply.{Reply}
use Rattle.ukhtvaresh.specs.NetworkReply.{network_reply}
use Rattle.ukhtvaresh.proofs.stations.told.Statement.{statement}
use Rattle.ukhtvaresh.proofs.stations.told.Tie as tie

returns : tie.Need-returns
returns c = λ l k.
    let a = c.network-answer.ensures l k in
    let e = c.network_reply-reply.ensures ∙ ap network_reply a.answer in
    record { is-number = ap (λ (x : Reply). x.number) e; is_value = ap (λ (x : Reply). x.value) e; is_room = a.room; is_steps = a.told }

pub told_spec : {M : Type 1} → statement M
told_spec = tie.close (tie.spec (λ c κs. c.requires) (λ c κs. search rules) (λ c. search rules) (λ c. search rules) returns)
