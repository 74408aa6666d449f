-- One second of a request's bytes, an eclipse's or a star's: the second and its numbers in the caller's buffer, or
-- the refusal.
use Rattle.std.specs.Prelude.{cond, List, [], ◌∷◌, ◌++◌, ℕ, leb, ℤ, pos, nat_abs, length, drop, get_or, Result, Ok, Err}
use Rattle.sheet_types.specs.declared.refusals.Refusal.{Refusal}
use Rattle.sheet_types.specs.declared.phases.Phase.{Phase}
use Rattle.sheet_types.specs.declared.phases.Phase.TheVariants as P
use Rattle.sheet_types.specs.States.{state_of, SaidRightly}
use Rattle.sheet_types.specs.Refusals.{refusal}
use Rattle.shadow.specs.declared.Second.{Second}
use Rattle.requests.specs.declared.Request.{Request}
use Rattle.requests.specs.declared.StarRequest.{StarRequest}
use Rattle.requests.specs.declared.Occultation.{Occultation}
use Rattle.requests.specs.Requests.{of_eclipse, of_star}
use Rattle.seconds.specs.OneSecond.{second_answer, second_sines}
use Rattle.seconds.specs.Exact.{ExactlyInside, WithinUnits, unsure_units}
use Rattle.request_format.specs.declared.fields.Shape.{Shape}
use Rattle.request_format.specs.declared.fields.Shape.TheVariants.{Eclipse, Star}
use Rattle.request_format.specs.Input.{input_of, request_of, eclipse_asked, star_asked, star_request_of}

-- what bytes of that shape ask for, or 10
abbrev pub wish : Shape → (request : List ℕ) → Result Occultation Refusal
wish Eclipse request = eclipse_asked (input_of request)
wish Star request = star_asked request

-- that, where they are of the shape
abbrev pub wished : Shape → (request : List ℕ) → Occultation
wished Eclipse request = of_eclipse (request_of request)
wished Star request = of_star (star_request_of request)

-- "Requests: 10, 1, 2, 3": the shape comes first. Document 02, wish 7: of a star 13 "after 2"; wish 8: then the 4 of
-- the buffer for table S
abbrev pub second_asked : Result Occultation Refusal → ℤ → (sines : List ℕ) → Result Second Refusal
second_asked (Ok o) τ sines = second_answer o τ sines
second_asked (Err r) τ sines = Err r

-- that buffer afterwards
abbrev pub sines_asked : Result Occultation Refusal → ℤ → (sines : List ℕ) → List ℕ
sines_asked (Ok o) τ sines = second_sines o τ sines
sines_asked (Err r) τ sines = sines

-- ---- its numbers

-- u, v, L1, L2, the states of penumbra and central cone (0 outside, 1 inside, 2 unsure), magnitude, direction
abbrev pub eight : Second → List ℤ
eight x = x.shadow.u ∷ x.shadow.v ∷ x.shadow.l1 ∷ x.shadow.l2 ∷ pos x.penumbra ∷ pos x.central ∷ pos x.magnitude ∷ pos x.direction ∷ []

-- of a star, which has one phase and no magnitude: u, v, L, the state, direction
abbrev pub five : Second → List ℤ
five x = x.shadow.u ∷ x.shadow.v ∷ x.shadow.l1 ∷ pos x.penumbra ∷ pos x.direction ∷ []

abbrev pub numbers_of : Shape → Second → List ℤ
numbers_of Eclipse x = eight x
numbers_of Star x = five x

-- how many they are
abbrev pub number_count : Shape → ℕ
number_count Eclipse = 8
number_count Star = 5

-- "4" with "the length it needs", after the refusals above
abbrev pub second_into : (count room : ℕ) → Result Second Refusal → Result Second Refusal
second_into n k (Ok x) = cond (leb n k) (Ok x) (Err (refusal 4 n))
second_into n k (Err r) = Err r

unfoldable pub second_given : Shape → (request : List ℕ) → ℤ → (sines : List ℕ) → List ℤ → Result Second Refusal
second_given shape request τ sines room = second_into (number_count shape) (length room) (second_asked (wish shape request) τ sines)

-- "After any refusal the buffer holds its old bytes; after success the bytes past the sheet do": so too numbers
abbrev pub numbers_after : Shape → Result Second Refusal → List ℤ → List ℤ
numbers_after shape (Ok x) old = numbers_of shape x ++ drop (number_count shape) old
numbers_after shape (Err r) old = old

-- ---- what its states mean

-- "Where our program says inside or outside, that is the exact answer. It says unsure only where the exact distance
-- lies" "within the guard plus 13" units "of the cone's edge" (document 02, wish 9): of the number at place k of the
-- buffer
abbrev pub StateMeans : Occultation → ℤ → Phase → (room : List ℤ) (k : ℕ) → Type 0
StateMeans o τ φ room k = SaidRightly (state_of (nat_abs (get_or room k (pos 0)))) (ExactlyInside o φ τ) (WithinUnits o (unsure_units o) φ τ)

-- the fifth and the sixth number
pub record RoomMeans (q : Request) (τ : ℤ) (room : List ℤ) : Type 0 where
  pub penumbra : StateMeans (of_eclipse q) τ P.Penumbra room 4
  pub central : StateMeans (of_eclipse q) τ P.Central room 5

-- the fourth
pub record StarRoomMeans (q : StarRequest) (τ : ℤ) (room : List ℤ) : Type 0 where
  pub state : StateMeans (of_star q) τ P.Star room 3

abbrev pub NumbersMean : Shape → (request : List ℕ) → ℤ → List ℤ → Type 0
NumbersMean Eclipse request τ room = RoomMeans (request_of request) τ room
NumbersMean Star request τ room = StarRoomMeans (star_request_of request) τ room

abbrev pub GivenMeans : Shape → (request : List ℕ) → ℤ → Result Second Refusal → List ℤ → Type 0
GivenMeans shape request τ (Ok x) room = NumbersMean shape request τ room
GivenMeans shape request τ (Err r) room = Unit
