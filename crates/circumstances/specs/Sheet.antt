-- The answer to an occultation, and what a caller's buffer holds afterwards. Definitions only.
use Rattle.std.specs.Prelude.{cond, List, ◌++◌, ℕ, leb, length, drop, Result, Ok, Err}
use Rattle.sheet_types.specs.declared.refusals.Refusal.{Refusal}
use Rattle.sheet_types.specs.Refusals.{refusal}
use Rattle.requests.specs.declared.Occultation.{Occultation}
use Rattle.requests.specs.Admission.{admitted, sines_after}
use Rattle.circumstances.specs.WrittenSheet.{sheet_bytes}

-- "4 | sheet longer than the buffer | the length it needs"
abbrev pub answer_within : Occultation → List ℕ → Result ℕ Refusal
answer_within o old = cond (leb (length (sheet_bytes o)) (length old)) (Ok (length (sheet_bytes o))) (Err (refusal 4 (length (sheet_bytes o))))

-- after the refusals of its numbers and of its buffer for table S
abbrev pub answer_by : Result Unit Refusal → Occultation → List ℕ → Result ℕ Refusal
answer_by (Err r) o old = Err r
answer_by (Ok tt) o old = answer_within o old

-- document 02, wish 8: the buffer's 4 is "just ahead of the sheet's 4"
unfoldable pub sheet_answer : Occultation → (sines old : List ℕ) → Result ℕ Refusal
sheet_answer o sines old = answer_by (admitted o sines) o old

-- "After any refusal the buffer holds its old bytes; after success the bytes past the sheet do."
abbrev pub buffer_within : Occultation → List ℕ → List ℕ
buffer_within o old = cond (leb (length (sheet_bytes o)) (length old)) (sheet_bytes o ++ drop (length (sheet_bytes o)) old) old

abbrev pub buffer_by : Result Unit Refusal → Occultation → List ℕ → List ℕ
buffer_by (Err r) o old = old
buffer_by (Ok tt) o old = buffer_within o old

unfoldable pub sheet_buffer : Occultation → (sines old : List ℕ) → List ℕ
sheet_buffer o sines old = buffer_by (admitted o sines) o old

-- the buffer for table S: the sheet's 4 "alone leaves this room filled"
unfoldable pub sheet_sines : Occultation → List ℕ → List ℕ
sheet_sines o sines = sines_after (admitted o sines) sines
