-- The answer to a request's bytes, given a buffer for table S and one for its sheet: as text, and as it is stored.
-- The answer, and what it leaves in the buffers: request_answers, Sheet.
use Rattle.std.specs.Prelude.{List, [], ℕ, ℤ, take, Result, Ok, Err, Option, Some, None}
use Rattle.requests.specs.declared.Occultation.{Occultation}
use Rattle.calendar.specs.declared.Instant.{Instant}
use Rattle.sheet_types.specs.declared.refusals.Refusal.{Refusal}
use Rattle.request_answers.specs.Second.{wish}
use Rattle.request_answers.specs.Sheet.{answer_by, buffer_by, answer_to, buffer_for, star_answer, star_buffer}
use Rattle.request_format.specs.declared.fields.Shape.{Shape}
use Rattle.request_format.specs.declared.fields.Shape.TheVariants as Shape
use Rattle.request_format.specs.Input.{delta_of, star_delta}
use Rattle.listing_lines.specs.Lines.{refusal_line}
use Rattle.listings.specs.Listings.{told, timed, printed}
use Rattle.program_io.specs.Inputs.{zeros}

-- the listing of the bytes that the sheet has in the buffer; or "A refusal prints `refused`, number, place."
abbrev pub text_by : Result ℕ Refusal → List ℕ → List ℕ
text_by (Ok n) room = printed (told (take n room))
text_by (Err r) room = refusal_line r.number r.place

-- of what bytes of that shape ask for
unfoldable pub answer_text : Shape → (request sines room : List ℕ) → List ℕ
answer_text shape request sines room = text_by (answer_by (wish shape request) sines room) (buffer_by (wish shape request) sines room)

-- what a program prints: the answer with 901 numbers for table S and "65,536 bytes for the sheet"
unfoldable pub printed_for : Shape → List ℕ → List ℕ
printed_for shape request = answer_text shape request (zeros 901) (zeros 65536)

-- ---- with clock times

-- the same, with times by the reference and the station's ΔT, altitudes and notes
abbrev pub timed_by : Option Instant → ℤ → Option Occultation → Result ℕ Refusal → List ℕ → List ℕ
timed_by k d y (Ok n) room = printed (timed k d y (take n room))
timed_by k d y (Err r) room = refusal_line r.number r.place

-- an observer is told of the occultation that is asked for
abbrev pub sky_of : Result Occultation Refusal → Option Occultation
sky_of (Ok o) = Some o
sky_of (Err r) = None

-- the station's ΔT
abbrev pub delta_by : Shape → List ℕ → ℤ
delta_by Shape.Eclipse request = delta_of request
delta_by Shape.Star request = star_delta request

-- of bytes of that shape
abbrev pub timed_shaped : Shape → Option Instant → (request sines room : List ℕ) → List ℕ
timed_shaped shape k request sines room =
    timed_by k (delta_by shape request) (sky_of (wish shape request)) (answer_by (wish shape request) sines room) (buffer_by (wish shape request) sines room)

unfoldable pub timed_text : Option Instant → (request sines room : List ℕ) → List ℕ
timed_text k request sines room =
    timed_by k (delta_of request) (sky_of (wish Shape.Eclipse request)) (answer_to request sines room) (buffer_for request sines room)

unfoldable pub star_timed_text : Option Instant → (request sines room : List ℕ) → List ℕ
star_timed_text k request sines room =
    timed_by k (star_delta request) (sky_of (wish Shape.Star request)) (star_answer request sines room) (star_buffer request sines room)

-- ---- beside the sheet as it is stored

-- to standard error: nothing, or the line of the refusal
abbrev pub error_by : Result ℕ Refusal → List ℕ
error_by (Ok n) = []
error_by (Err r) = refusal_line r.number r.place

unfoldable pub error_line : (request sines room : List ℕ) → List ℕ
error_line request sines room = error_by (answer_to request sines room)
