-- The horizon at one second of a request's bytes, of an eclipse or of a star: its three numbers in the caller's buffer,
-- or the refusal.
use Rattle.std.specs.Prelude.{cond, List, [], ◌∷◌, ◌++◌, ℕ, leb, ℤ, pos, length, drop, Result, Ok, Err}
use Rattle.requests.specs.declared.Occultation.{Occultation}
use Rattle.sheet_types.specs.declared.refusals.Refusal.{Refusal}
use Rattle.sheet_types.specs.Refusals.{refusal}
use Rattle.horizon.specs.declared.Horizon.{Horizon}
use Rattle.horizon.specs.Horizon.{horizon_answer}
use Rattle.request_format.specs.declared.fields.Shape.{Shape}
use Rattle.request_answers.specs.Second.{wish}

-- the refusals are those of one second (Second), in their order
abbrev pub horizon_asked : Result Occultation Refusal → ℤ → (sines : List ℕ) → Result Horizon Refusal
horizon_asked (Ok o) τ sines = horizon_answer o τ sines
horizon_asked (Err r) τ sines = Err r

-- its numbers: altitude, azimuth, zenith, in tenths of a degree
abbrev pub horizon_numbers : Horizon → List ℤ
horizon_numbers x = x.altitude ∷ pos x.azimuth ∷ pos x.zenith ∷ []

-- "the last 4 with place 3"
abbrev pub horizon_into : (room : ℕ) → Result Horizon Refusal → Result Horizon Refusal
horizon_into k (Ok x) = cond (leb 3 k) (Ok x) (Err (refusal 4 3))
horizon_into k (Err r) = Err r

unfoldable pub horizon_given : Shape → (request : List ℕ) → ℤ → (sines : List ℕ) → List ℤ → Result Horizon Refusal
horizon_given shape request τ sines room = horizon_into (length room) (horizon_asked (wish shape request) τ sines)

-- "After any refusal the buffer holds its old bytes; after success the bytes past the sheet do": so too numbers
abbrev pub horizon_after : Result Horizon Refusal → List ℤ → List ℤ
horizon_after (Ok x) old = horizon_numbers x ++ drop 3 old
horizon_after (Err r) old = old
