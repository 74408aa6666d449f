-- What a caller from outside gets of the horizon at one second of a request: the refusal's number and place, or 0 and 3,
-- how many numbers it has.
use Rattle.std.specs.Prelude.{Result, Ok, Err}
use Rattle.ukhtvaresh.specs.declared.replies.Reply.{Reply}
use Rattle.horizon.specs.declared.Horizon.{Horizon}
use Rattle.sheet_types.specs.declared.refusals.Refusal.{Refusal}
use Rattle.ukhtvaresh.specs.Replies.{refused_reply}

abbrev pub horizon_reply : Result Horizon Refusal → Reply
horizon_reply (Ok x) = record { number = 0; value = 3 }
horizon_reply (Err r) = refused_reply r
