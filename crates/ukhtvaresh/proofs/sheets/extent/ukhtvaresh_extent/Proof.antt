-- `ukhtvaresh::sheets::extent::ukhtvaresh_extent` meets its contract: the answer of the crate below, as numbers.
use mathlib.Core.Path.{ap, ◌∙◌}
use Rattle.ukhtvaresh.specs.declared.replies.Reply.{Reply}
use Rattle.ukhtvaresh.specs.Replies.{write_reply}
use borrow.Author.Rules.{rules}
use Rattle.ukhtvaresh.proofs.sheets.extent.ukhtvaresh_extent.Statement.{statement}
use Rattle.ukhtvaresh.proofs.sheets.extent.ukhtvaresh_extent.Tie as tie

returns : tie.Need-returns
returns c =
    let done = c.extent_of_leading_sheet-extent in
    let e = c.write_reply-reply.ensures ∙ ap write_reply done.ensures in
    (ap (λ (x : Reply). x.number) e, ap (λ (x : Reply). x.value) e)

pub ukhtvaresh_extent_spec : {M : Type 1} → statement M
ukhtvaresh_extent_spec = tie.close (tie.spec (λ c κs. search rules) (λ c κs. search rules) returns)
