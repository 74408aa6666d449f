-- What a caller from outside gets for units as doubles: the number of the refusal, 0 for none; and beside it the count
-- of the doubles, or the refusal's place.
use Rattle.std.specs.Prelude.{Result, Ok, Err}
use Rattle.ukhtvaresh.specs.declared.replies.Reply.{Reply}
use Rattle.sheet_types.specs.declared.refusals.Refusal.{Refusal}
use Rattle.ukhtvaresh.specs.Replies.{refused_reply}

abbrev pub doubles_reply : Result Unit Refusal → Reply
doubles_reply (Ok tt) = record { number = 0; value = 23 }
doubles_reply (Err r) = refused_reply r
