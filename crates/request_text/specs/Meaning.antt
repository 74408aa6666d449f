-- What a typed text is: a request and its instant, or what is wrong with it.
use Rattle.std.specs.Prelude.{Bool, cond, List, [], ◌++◌, ℕ, ltb, ℤ, length, drop, Option, Result, Ok, Err, Option}
use Rattle.request_text.specs.declared.instants.Wrong.{Wrong}
use Rattle.calendar.specs.declared.Instant.{Instant}
use Rattle.request_format.specs.declared.fields.Shape.{Shape}
use Rattle.request_format.specs.Request.{size_for, bytes_for}
use Rattle.request_text.specs.Shapes.{shape_of}
use Rattle.request_text.specs.Typing.{Typing, given, typing_of}
use Rattle.request_text.specs.Typing as typing
use Rattle.request_text.specs.Told.{told_in}
use Rattle.decimal_text.specs.Texts.{letters}
use Rattle.request_text.specs.Messages.{message_of}
use Rattle.request_text.specs.TypedMessages.{instant_message}

-- the numbers of a request and its instant; or the first invalid line and its message
pub data Meaning : Type 0 where
  asked : Shape → List ℤ → Option Instant → Meaning
  refused : ℕ → List ℕ → Meaning

-- by what its lines say of the numbers and of the instant: "The first invalid line is reported"
abbrev pub meaning_by : Shape → List ℕ → Typing → Result (Option Instant) (ℕ × Wrong) → Meaning
meaning_by shape text (given ns) (Ok x) = asked shape ns x
meaning_by shape text (given ns) (Err (j, wrong)) = refused j (instant_message j wrong)
meaning_by shape text (typing.refused i fault) (Ok x) = refused i (message_of shape text i fault)
meaning_by shape text (typing.refused i fault) (Err (j, wrong)) =
    cond (ltb j i) (refused j (instant_message j wrong)) (refused i (message_of shape text i fault))

-- a text with more bytes than are taken; its line is 0
abbrev pub tooLong : List ℕ → Bool
tooLong text = ltb 65536 (length text)

-- any other is read as the request that it is
unfoldable pub meaning_of : List ℕ → Meaning
meaning_of text =
    cond (tooLong text) (refused 0 (letters "the text has more than 65,536 bytes\n"))
    (meaning_by (shape_of text) text (typing_of (shape_of text) text) (told_in text))

-- ---- what is answered, and the two buffers afterwards: what was not asked for is as it was

abbrev pub answer_of : Meaning → Result (ℕ × Option Instant) ℕ
answer_of (asked shape ns x) = Ok ((size_for shape), x)
answer_of (refused line message) = Err (length message)

abbrev pub bytesAfter : Meaning → List ℕ → List ℕ
bytesAfter (asked shape ns x) old = bytes_for shape ns ++ drop (size_for shape) old
bytesAfter (refused line message) old = old

abbrev pub message_after : Meaning → List ℕ → List ℕ
message_after (asked shape ns x) old = old
message_after (refused line message) old = message ++ drop (length message) old

-- ---- what a program prints about a text on standard error: nothing, or what is wrong with it

abbrev pub error_by : Meaning → List ℕ
error_by (asked shape ns x) = []
error_by (refused line message) = message

abbrev pub error_of : List ℕ → List ℕ
error_of text = error_by (meaning_of text)
