-- The mirror of a request's bytes: the answer, and what the buffer holds afterwards. Definitions only.
use Rattle.std.specs.Prelude.{cond, List, [], ◌∷◌, ◌++◌, ℕ, leb, ℤ, length, drop, Result, Ok, Err}
use Rattle.sheet_types.specs.declared.refusals.Refusal.{Refusal}
use Rattle.sheet_types.specs.Refusals.{refusal}
use Rattle.elements.specs.Elements as E
use Rattle.station.specs.Station as S
use Rattle.requests.specs.declared.Request.{Request}
use Rattle.requests.specs.Mirror.{mirrored_request, opposite}
use Rattle.request_format.specs.Request.{size, bytes_of}
use Rattle.request_format.specs.Input.{input_of}

-- the numbers of a request, in document 01's order
abbrev pub numbers_of : Request → List ℤ
numbers_of q = E.fields q.elements ++ (S.fields q.station ++ (q.window.first ∷ q.window.last ∷ q.guard ∷ []))

-- the mirror that its bytes hold: in 4 bytes each number has its opposite but one, -2^31, which stays as it is
abbrev pub mirror_in_bytes : Request → Request
mirror_in_bytes q = mirrored_request (opposite 2147483647) q

unfoldable pub mirror_bytes : Request → List ℕ
mirror_bytes q = bytes_of (numbers_of (mirror_in_bytes q))

-- refusal 10 of the shape; then "4" with "the length it needs"
abbrev pub answer_by : Result Request Refusal → ℕ → Result ℕ Refusal
answer_by (Ok q) room = cond (leb size room) (Ok size) (Err (refusal 4 size))
answer_by (Err r) room = Err r

unfoldable pub mirror_answer : List ℕ → List ℕ → Result ℕ Refusal
mirror_answer request old = answer_by (input_of request) (length old)

-- "After any refusal the buffer holds its old bytes; after success the bytes past the sheet do": past the mirror here
abbrev pub buffer_by : Result Request Refusal → List ℕ → List ℕ
buffer_by (Ok q) old = cond (leb size (length old)) (mirror_bytes q ++ drop size old) old
buffer_by (Err r) old = old

unfoldable pub mirror_buffer : List ℕ → List ℕ → List ℕ
mirror_buffer request old = buffer_by (input_of request) old
