-- The contact between two seconds of a request's bytes, of an eclipse or of a star: two hundredths of a second in the
-- caller's buffer, or the refusal.
use Rattle.std.specs.Prelude.{cond, List, [], ◌∷◌, ◌++◌, ℕ, leb, ℤ, length, drop, Result, Ok, Err}
use Rattle.requests.specs.declared.Occultation.{Occultation}
use Rattle.sheet_types.specs.declared.refusals.Refusal.{Refusal}
use Rattle.sheet_types.specs.Refusals.{refusal}
use Rattle.contact_times.specs.Contacts.{contact_answer, contact_sines}
use Rattle.request_format.specs.declared.fields.Shape.{Shape}
use Rattle.request_answers.specs.Second.{wish}

-- "The first of them: 10": the shape of the bytes comes before all else
abbrev pub contact_asked : Result Occultation Refusal → (φ from to : ℤ) (sines : List ℕ) → Result (ℤ × ℤ) Refusal
contact_asked (Ok o) φ from to sines = contact_answer o φ from to sines
contact_asked (Err r) φ from to sines = Err r

-- the buffer for table S afterwards
abbrev pub contact_sines_asked : Result Occultation Refusal → (φ from to : ℤ) (sines : List ℕ) → List ℕ
contact_sines_asked (Ok o) φ from to sines = contact_sines o φ from to sines
contact_sines_asked (Err r) φ from to sines = sines

-- "last 4 with place 2 where the buffer for the bracket holds fewer than two numbers"
abbrev pub contact_into : (room : ℕ) → Result (ℤ × ℤ) Refusal → Result (ℤ × ℤ) Refusal
contact_into k (Ok (a, b)) = cond (leb 2 k) (Ok (a, b)) (Err (refusal 4 2))
contact_into k (Err r) = Err r

unfoldable pub contact_given : Shape → (request : List ℕ) (φ from to : ℤ) (sines : List ℕ) → List ℤ → Result (ℤ × ℤ) Refusal
contact_given shape request φ from to sines room = contact_into (length room) (contact_asked (wish shape request) φ from to sines)

-- "Two whole numbers, hundredths of a second from the reference instant"; "On every refusal the bracket's buffer is as
-- it was", and after success the numbers past these two are
abbrev pub contact_after : Result (ℤ × ℤ) Refusal → List ℤ → List ℤ
contact_after (Ok (a, b)) old = (a ∷ b ∷ []) ++ drop 2 old
contact_after (Err r) old = old
