-- `ukhtvaresh::sheets::listing::ukhtvaresh_listing` meets its contract: the answer of the crate below, as numbers.
use mathlib.Core.Path.{ap, ◌∙◌}
use Rattle.ukhtvaresh.specs.declared.replies.Reply.{Reply}
use Rattle.ukhtvaresh.specs.Listing.{listing_reply}
use borrow.Author.Rules.{rules}
use Rattle.ukhtvaresh.proofs.sheets.listing.ukhtvaresh_listing.Statement.{statement}
use Rattle.ukhtvaresh.proofs.sheets.listing.ukhtvaresh_listing.Tie as tie

returns : tie.Need-returns
returns c =
    let done = c.listing-answer in
    let e = c.listing_reply-reply.ensures ∙ ap listing_reply done.ensures.0 in
    (ap (λ (x : Reply). x.number) e, (ap (λ (x : Reply). x.value) e, done.ensures.1))

pub ukhtvaresh_listing_spec : {M : Type 1} → statement M
ukhtvaresh_listing_spec =
    tie.close (tie.spec (λ c κs. search rules) (λ c κs. search rules) (λ c. search rules) returns)
