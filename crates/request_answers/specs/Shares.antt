-- The covered share at a second of the program's input, document 02, wish 4. Definitions only.
use Rattle.std.specs.Prelude.{List, ℕ, ℤ, Result}
use Rattle.requests.specs.declared.Request.{Request}
use Rattle.sheet_types.specs.declared.refusals.Refusal.{Refusal}
use Rattle.obscuration.specs.Answer.{share_by}
use Rattle.request_format.specs.Input.{eclipse_asked}
use Rattle.request_answers.specs.Second.{second_asked}

-- refused as a second is: "Requests: 10, 1, 2, 3", the shape first, then the 4 of the buffer for table S
abbrev pub share_asked : Result Request Refusal → ℤ → (sines : List ℕ) → Result ℕ Refusal
share_asked i τ sines = share_by (second_asked (eclipse_asked i) τ sines)
