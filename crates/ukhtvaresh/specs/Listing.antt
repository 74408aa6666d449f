-- What a caller from outside gets of a listing: the refusal's number and place, or 0 and the text's length.
use Rattle.std.specs.Prelude.{List, ℕ, length, Result, Ok, Err}
use Rattle.sheet_types.specs.declared.refusals.Refusal.{Refusal}
use Rattle.listings.specs.Answers.{answered}
use Rattle.listings.specs.Listings.{told}
use Rattle.ukhtvaresh.specs.declared.replies.Reply.{Reply}
use Rattle.ukhtvaresh.specs.Replies.{refused_reply}

-- the answer to a sheet's bytes with a buffer
abbrev pub listing_given : List ℕ → List ℕ → Result ℕ Refusal
listing_given sheet room = answered (length room) (told sheet)

abbrev pub listing_reply : Result ℕ Refusal → Reply
listing_reply (Ok n) = record { number = 0; value = n }
listing_reply (Err r) = refused_reply r
