-- What a caller from outside gets of the contact between two seconds of a request: the refusal's number and place, or 0
-- and 2, how many numbers it has.
use Rattle.std.specs.Prelude.{Result, Ok, Err, ℤ}
use Rattle.ukhtvaresh.specs.declared.replies.Reply.{Reply}
use Rattle.sheet_types.specs.declared.refusals.Refusal.{Refusal}
use Rattle.ukhtvaresh.specs.Replies.{refused_reply}

abbrev pub contact_reply : Result (ℤ × ℤ) Refusal → Reply
contact_reply (Ok (a, b)) = record { number = 0; value = 2 }
contact_reply (Err r) = refused_reply r
