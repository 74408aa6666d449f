-- `ukhtvaresh::tables::from_tables::ukhtvaresh_from_tables` meets its contract: the answer of `tables`, as numbers.
use mathlib.Core.Path.{ap, ◌∙◌}
use borrow.Author.Rules.{rules}
use Rattle.ukhtvaresh.specs.declared.replies.Reply.{Reply}
use Rattle.ukhtvaresh.specs.TablesReply.{tables_reply}
use Rattle.ukhtvaresh.proofs.tables.from_tables.ukhtvaresh_from_tables.Statement.{statement}
use Rattle.ukhtvaresh.proofs.tables.from_tables.ukhtvaresh_from_tables.Tie as tie

returns : tie.Need-returns
returns c =
    let done = c.elements-answer in
    let e = c.tables_reply-reply.ensures ∙ ap tables_reply done.ensures.0 in
    (ap (λ (x : Reply). x.number) e, (ap (λ (x : Reply). x.value) e, done.ensures.1))

pub ukhtvaresh_from_tables_spec : {M : Type 1} → statement M
ukhtvaresh_from_tables_spec =
    tie.close (tie.spec (λ c κs. search rules) (λ c κs. search rules) (λ c. search rules) returns)
