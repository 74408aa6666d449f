-- `ukhtvaresh::sheets::mend::ukhtvaresh_mend` meets its contract: the answer of the crate below, as numbers.
use mathlib.Core.Path.{ap, ◌∙◌}
use Rattle.year_file.specs.Walk.{kept, notes}
use Rattle.year_file.specs.Mending.{room_after}
use Rattle.ukhtvaresh.specs.declared.replies.MendReply.{MendReply}
use Rattle.ukhtvaresh.specs.MendReply.{mend_reply}
use borrow.Author.Rules.{rules}
use Rattle.ukhtvaresh.proofs.sheets.mend.ukhtvaresh_mend.Statement.{statement}
use Rattle.ukhtvaresh.proofs.sheets.mend.ukhtvaresh_mend.Tie as tie

returns : tie.Need-returns
returns c =
    let done = c.mend-answer in
    let a = c.args in
    let answer = done.ensures.0 in
    let e = c.mend_reply-reply.ensures ∙ ap mend_reply answer in
    let sheets = done.ensures.1.0 ∙ ap (λ r. room_after r (kept a.file.now) a.sheets.now) answer in
    let dropped = done.ensures.1.1 ∙ ap (λ r. room_after r (notes a.file.now) a.dropped.now) answer in
    (ap (λ (x : MendReply). x.number) e, (ap (λ (x : MendReply). x.kept) e, (ap (λ (x : MendReply). x.noted) e, (sheets, dropped))))

pub ukhtvaresh_mend_spec : {M : Type 1} → statement M
ukhtvaresh_mend_spec =
    tie.close (tie.spec (λ c κs. search rules) (λ c κs. search rules) (λ c. search rules) (λ c. search rules) returns)
