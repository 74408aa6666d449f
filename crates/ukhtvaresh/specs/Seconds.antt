-- What a caller from outside gets of one second of a request: the refusal's number and place, or 0 and how many
-- numbers it has.
use Rattle.std.specs.Prelude.{ℕ, Result, Ok, Err}
use Rattle.shadow.specs.declared.Second.{Second}
use Rattle.sheet_types.specs.declared.refusals.Refusal.{Refusal}
use Rattle.ukhtvaresh.specs.declared.replies.Reply.{Reply}
use Rattle.ukhtvaresh.specs.Replies.{refused_reply}

abbrev pub second_reply : (count : ℕ) → Result Second Refusal → Reply
second_reply n (Ok x) = record { number = 0; value = n }
second_reply n (Err r) = refused_reply r
