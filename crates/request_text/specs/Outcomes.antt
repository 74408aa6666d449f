-- What a typed text is for the code that reads it: a request, or the reason why it is none. The message of a reason is
-- that of `Meaning`.
use Rattle.std.specs.Prelude.{ℕ, cond, List, ltb, Result, Ok, Err, Option}
use Rattle.request_text.specs.declared.instants.Wrong.{Wrong}
use Rattle.calendar.specs.declared.Instant.{Instant}
use Rattle.request_text.specs.declared.Fault.{Fault}
use Rattle.request_format.specs.Request.{size_for}
use Rattle.decimal_text.specs.Texts.{letters}
use Rattle.request_text.specs.declared.typed_requests.Reason.{Reason}
use Rattle.request_text.specs.declared.typed_requests.Reason.TheVariants as R
use Rattle.request_text.specs.Shapes.{shape_of}
use Rattle.request_text.specs.Typing.{typing_of, answer_of}
use Rattle.request_text.specs.Told.{told_in}
use Rattle.request_text.specs.Messages.{message_of}
use Rattle.request_text.specs.TypedMessages.{instant_message}
use Rattle.request_text.specs.Meaning.{tooLong}

-- by what its lines say of the numbers and of the instant: the first invalid line decides
abbrev pub first_of : ℕ → Result Unit (ℕ × Fault) → Result (Option Instant) (ℕ × Wrong) → Result (ℕ × Option Instant) Reason
first_of n (Ok tt) (Ok x) = Ok (n, x)
first_of n (Ok tt) (Err (j, wrong)) = Err (R.Instant j wrong)
first_of n (Err (i, fault)) (Ok x) = Err (R.Number i fault)
first_of n (Err (i, fault)) (Err (j, wrong)) = cond (ltb j i) (Err (R.Instant j wrong)) (Err (R.Number i fault))

unfoldable pub outcome_of : List ℕ → Result (ℕ × Option Instant) Reason
outcome_of text =
    cond (tooLong text) (Err R.TooLong)
    (first_of (size_for (shape_of text)) (answer_of (typing_of (shape_of text) text)) (told_in text))

-- the line that a reason names
abbrev pub line_of : Reason → ℕ
line_of R.TooLong = 0
line_of (R.Number i fault) = i
line_of (R.Instant j wrong) = j

-- its message
abbrev pub reason_text : List ℕ → Reason → List ℕ
reason_text text R.TooLong = letters "the text has more than 65,536 bytes\n"
reason_text text (R.Number i fault) = message_of (shape_of text) text i fault
reason_text text (R.Instant j wrong) = instant_message j wrong
