-- What a caller from outside gets of a typed text: 0 and how many bytes its request has; or 20, a refusal of ours, and the
-- first invalid line; or 4 and the length that a buffer needs.
use Rattle.std.specs.Prelude.{List, ℕ, length, Result, Ok, Err}
use Rattle.request_text.specs.declared.typed_requests.stored.NotStored.TheVariants as NotStored
use Rattle.request_text.specs.declared.typed_requests.stored.NotStored.{NotStored}
use Rattle.request_text.specs.Meaning.{meaning_of}
use Rattle.request_text.specs.Stored.{stored_as}
use Rattle.ukhtvaresh.specs.declared.replies.Reply.{Reply}

abbrev pub typed_given : (text request instant message : List ℕ) → Result ℕ NotStored
typed_given text request instant message = stored_as (length request) (length instant) (length message) (meaning_of text)

abbrev pub typed_reply : Result ℕ NotStored → Reply
typed_reply (Ok n) = record { number = 0; value = n }
typed_reply (Err (NotStored.Fault line)) = record { number = 20; value = line }
typed_reply (Err (NotStored.Short n)) = record { number = 4; value = n }
