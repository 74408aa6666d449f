-- What a caller from outside gets for a proposed fit: the refusal's number and its place, 0 and 0 where it is accepted.
use Rattle.std.specs.Prelude.{Result, Ok, Err}
use Rattle.ukhtvaresh.specs.declared.replies.Reply.{Reply}
use Rattle.sheet_types.specs.declared.refusals.Refusal.{Refusal}
use Rattle.ukhtvaresh.specs.Replies.{refused_reply}

abbrev pub fit_reply : Result Unit Refusal → Reply
fit_reply (Ok tt) = record { number = 0; value = 0 }
fit_reply (Err r) = refused_reply r
