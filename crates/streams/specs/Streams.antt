-- Requests that follow each other: where each ends, the answer to it, and the report on standard error. The answer to
-- a request's bytes, and what it leaves in the buffers: request_answers, Sheet.
use Rattle.std.specs.Prelude.{Bool, true, false, cond, List, [], ◌++◌, ℕ, eqb, get_or, Result, Ok, Err}
use Rattle.sheet_types.specs.declared.refusals.Refusal.{Refusal}
use Rattle.request_format.specs.Fields.{elements, star_elements}
use Rattle.request_format.specs.declared.fields.Shape.TheVariants as S
use Rattle.request_format.specs.Layout.{Reading, numbers, misshaped}
use Rattle.request_format.specs.Request.{size_for, reading_for}
use Rattle.request_answers.specs.Sheet.{answer_to, buffer_for, sines_for, star_answer, star_buffer, star_sines, stored_by}
use Rattle.decimal_text.specs.Decimals.{decimal}
use Rattle.decimal_text.specs.Texts.{letters}
use Rattle.listing_lines.specs.Lines.{refusal_line}

-- ---- where a request ends

-- the kind that a request begins with: an eclipse's, a star's
abbrev pub eclipse_kind : ℕ
eclipse_kind = elements.kind

abbrev pub star_kind : ℕ
star_kind = star_elements.kind

-- DECISIONS: "Requests are told apart by their first byte". How many bytes the request has that begins with it; one
-- with which none begins is taken alone
unfoldable pub size_from : ℕ → ℕ
size_from first = cond (eqb first eclipse_kind) (size_for S.Eclipse) (cond (eqb first star_kind) (size_for S.Star) 1)

-- ---- the answer to it

-- a star's request, by its first byte; any other is read as an eclipse's, and refused with 10 where it is none
abbrev pub is_star : List ℕ → Bool
is_star s = eqb (get_or s 0 0) star_kind

unfoldable pub answer_for : (request sines room : List ℕ) → Result ℕ Refusal
answer_for s sines room = cond (is_star s) (star_answer s sines room) (answer_to s sines room)

-- the sheet's buffer and that for table S afterwards
unfoldable pub room_for : (request sines room : List ℕ) → List ℕ
room_for s sines room = cond (is_star s) (star_buffer s sines room) (buffer_for s sines room)

unfoldable pub table_for : (request sines : List ℕ) → List ℕ
table_for s sines = cond (is_star s) (star_sines s sines) (sines_for s sines)

-- ---- what is written

-- to standard output: the sheet as it is stored, or nothing
unfoldable pub sheet_for : (request sines room : List ℕ) → List ℕ
sheet_for s sines room = stored_by (answer_for s sines room) (room_for s sines room)

-- `request COUNT: refused NUMBER PLACE`
unfoldable pub told_line : ℕ → Refusal → List ℕ
told_line count r = letters "request " ++ decimal count ++ letters ": " ++ refusal_line r.number r.place

-- `stopped at byte PLACE`
unfoldable pub stop_line : ℕ → List ℕ
stop_line at = letters "stopped at byte " ++ decimal at ++ letters "\n"

-- after "10 | program input not of the shape below" nobody knows where the next request begins
abbrev pub is_shape : Refusal → Bool
is_shape r = eqb r.number 10

unfoldable pub refusal_told : (count at : ℕ) → Refusal → List ℕ
refusal_told count at r = cond (is_shape r) (told_line count r ++ stop_line at) (told_line count r)

-- to standard error: nothing, or the refusal, of request `count`, which begins at byte `at`
abbrev pub told_by : (count at : ℕ) → Result ℕ Refusal → List ℕ
told_by count at (Ok n) = []
told_by count at (Err r) = refusal_told count at r

unfoldable pub told_for : (count at : ℕ) (request sines room : List ℕ) → List ℕ
told_for count at s sines room = told_by count at (answer_for s sines room)

-- and whether the stream stops there
abbrev pub stops_by : Result ℕ Refusal → Bool
stops_by (Ok n) = false
stops_by (Err r) = is_shape r

unfoldable pub stops_for : (request sines room : List ℕ) → Bool
stops_for s sines room = stops_by (answer_for s sines room)

-- what that comes to (Stops, `stops-are`): the bytes are not those of the request that their first byte begins
abbrev pub is_misshaped : Reading → Bool
is_misshaped (numbers ns) = false
is_misshaped misshaped = true

unfoldable pub wrong_shape : List ℕ → Bool
wrong_shape s = cond (is_star s) (is_misshaped (reading_for S.Star s)) (is_misshaped (reading_for S.Eclipse s))
