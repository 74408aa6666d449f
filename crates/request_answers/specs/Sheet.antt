-- The sheet of the program's input: the answer, and what the sheet's buffer and the buffer for table S hold afterwards.
use Rattle.std.specs.Prelude.{◌≡◌, List, [], ℕ, length, take, Result, Ok, Err}
use Rattle.requests.specs.declared.Occultation.{Occultation}
use Rattle.sheet_types.specs.declared.refusals.Refusal.{Refusal}
use Rattle.circumstances.specs.Sheet.{sheet_answer, sheet_buffer, sheet_sines}
use Rattle.request_format.specs.Input.{input_of, sharing, eclipse_asked, star_asked}

-- "Requests: 10, 1, 2, 3, 4": the shape comes first
abbrev pub answer_by : Result Occultation Refusal → (sines old : List ℕ) → Result ℕ Refusal
answer_by (Ok o) sines old = sheet_answer o sines old
answer_by (Err r) sines old = Err r

unfoldable pub answer_to : (input sines old : List ℕ) → Result ℕ Refusal
answer_to input sines old = answer_by (eclipse_asked (input_of input)) sines old

-- "After any refusal the buffer holds its old bytes"
abbrev pub buffer_by : Result Occultation Refusal → (sines old : List ℕ) → List ℕ
buffer_by (Ok o) sines old = sheet_buffer o sines old
buffer_by (Err r) sines old = old

unfoldable pub buffer_for : (input sines old : List ℕ) → List ℕ
buffer_for input sines old = buffer_by (eclipse_asked (input_of input)) sines old

-- document 02, wish 8: the sheet's 4 "alone leaves this room filled"
abbrev pub sines_by : Result Occultation Refusal → List ℕ → List ℕ
sines_by (Ok o) sines = sheet_sines o sines
sines_by (Err r) sines = sines

unfoldable pub sines_for : (input sines : List ℕ) → List ℕ
sines_for input sines = sines_by (eclipse_asked (input_of input)) sines

-- ---- of a request that asks for the covered share, document 02, wish 4

unfoldable pub shared_answer : (input sines old : List ℕ) → Result ℕ Refusal
shared_answer input sines old = answer_by (eclipse_asked (sharing (input_of input))) sines old

unfoldable pub shared_buffer : (input sines old : List ℕ) → List ℕ
shared_buffer input sines old = buffer_by (eclipse_asked (sharing (input_of input))) sines old

unfoldable pub shared_sines : (input sines : List ℕ) → List ℕ
shared_sines input sines = sines_by (eclipse_asked (sharing (input_of input))) sines

-- ---- of a star request, document 02, wish 7

unfoldable pub star_answer : (input sines old : List ℕ) → Result ℕ Refusal
star_answer input sines old = answer_by (star_asked input) sines old

unfoldable pub star_buffer : (input sines old : List ℕ) → List ℕ
star_buffer input sines old = buffer_by (star_asked input) sines old

unfoldable pub star_sines : (input sines : List ℕ) → List ℕ
star_sines input sines = sines_by (star_asked input) sines

-- ---- the sheet as it is stored

-- the first n bytes of a buffer are some text
pub record Begins (n : ℕ) (room text : List ℕ) : Type 0 where
  pub count : n ≡ length text
  pub bytes : take n room ≡ text

-- to standard output: the bytes that the sheet has in the buffer, or nothing
abbrev pub stored_by : Result ℕ Refusal → List ℕ → List ℕ
stored_by (Ok n) room = take n room
stored_by (Err r) room = []

unfoldable pub sheet_stored : (input sines old : List ℕ) → List ℕ
sheet_stored input sines old = stored_by (answer_to input sines old) (buffer_for input sines old)
