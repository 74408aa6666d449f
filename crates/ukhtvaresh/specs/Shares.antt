-- The reply to a covered share, document 02, wish 4. Definitions only.
use Rattle.std.specs.Prelude.{Result, Ok, Err, ℕ}
use Rattle.ukhtvaresh.specs.declared.replies.Reply.{Reply}
use Rattle.sheet_types.specs.declared.refusals.Refusal.{Refusal}
use Rattle.ukhtvaresh.specs.Replies.{refused_reply}

-- the share itself, in millionths
abbrev pub share_reply : Result ℕ Refusal → Reply
share_reply (Ok s) = record { number = 0; value = s }
share_reply (Err r) = refused_reply r
