-- The answer to a request's bytes and the numbers of an instant: the text that program `times` prints of a sheet, or a
-- refusal; and the caller's buffers afterwards.
use Rattle.std.specs.Prelude.{List, cond, ℕ, eqb, ℤ, length, get_or, Option, Result, Ok, Err, Option}
use Rattle.requests.specs.declared.Occultation.{Occultation}
use Rattle.calendar.specs.declared.Instant.{Instant}
use Rattle.sheet_types.specs.declared.refusals.Refusal.{Refusal}
use Rattle.sheet_types.specs.Refusals.{refusal}
use Rattle.calendar.specs.Numbers.{reference_of}
use Rattle.request_format.specs.declared.fields.Shape.{Shape}
use Rattle.request_format.specs.declared.fields.Shape.TheVariants as Shape
use Rattle.request_format.specs.Input.{delta_of, star_delta}
use Rattle.request_answers.specs.Second.{wish}
use Rattle.request_answers.specs.Sheet.{answer_by, buffer_by, answer_to, buffer_for, sines_for, star_answer, star_buffer, star_sines}
use Rattle.listings.specs.Answers.{Told, text, withheld}
use Rattle.answers.specs.Answers.{timed_by, delta_by, sky_of}

-- the text of a sheet; a refusal is no text
abbrev pub told_by : Option Instant → ℤ → Option Occultation → Result ℕ Refusal → List ℕ → Told
told_by k d y (Ok n) room = text (timed_by k d y (Ok n) room)
told_by k d y (Err r) room = withheld r

-- of bytes of that shape
abbrev pub told_shaped : Shape → Option Instant → (request sines room : List ℕ) → Told
told_shaped shape k request sines room =
    told_by k (delta_by shape request) (sky_of (wish shape request)) (answer_by (wish shape request) sines room) (buffer_by (wish shape request) sines room)

-- of an eclipse's bytes, and of a star's
unfoldable pub timed_told : Option Instant → (request sines room : List ℕ) → Told
timed_told k request sines room =
    told_by k (delta_of request) (sky_of (wish Shape.Eclipse request)) (answer_to request sines room) (buffer_for request sines room)

unfoldable pub star_timed_told : Option Instant → (request sines room : List ℕ) → Told
star_timed_told k request sines room =
    told_by k (star_delta request) (sky_of (wish Shape.Star request)) (star_answer request sines room) (star_buffer request sines room)

-- ---- an instant and a request

-- the instant of a caller, or its refusal
pub data Given : Type 0 where
  given : Option Instant → Given
  wrong : Refusal → Given

-- 23, a refusal of ours, with the place of the first wrong number
abbrev pub numbered : Result (Option Instant) ℕ → Given
numbered (Ok k) = given k
numbered (Err i) = wrong (refusal 23 i)

-- an instant has six numbers, else "10" with place 0
unfoldable pub instant_given : List ℕ → Given
instant_given l =
    cond (eqb (length l) 6)
    (numbered (reference_of (get_or l 0 0) (get_or l 1 0) (get_or l 2 0) (get_or l 3 0) (get_or l 4 0) (get_or l 5 0)))
    (wrong (refusal 10 0))

-- a request of 79 bytes is a star's
abbrev pub told_for : Given → (request sines room : List ℕ) → Told
told_for (wrong r) request sines room = withheld r
told_for (given k) request sines room =
    cond (eqb (length request) 79) (star_timed_told k request sines room) (timed_told k request sines room)

-- with an instant the sheet and table S are as the sheet's own functions leave them, else as they were
abbrev pub sheet_for : Given → (request sines room : List ℕ) → List ℕ
sheet_for (wrong r) request sines room = room
sheet_for (given k) request sines room = cond (eqb (length request) 79) (star_buffer request sines room) (buffer_for request sines room)

abbrev pub table_for : Given → (request sines : List ℕ) → List ℕ
table_for (wrong r) request sines = sines
table_for (given k) request sines = cond (eqb (length request) 79) (star_sines request sines) (sines_for request sines)
