-- A typed text stored in a caller's buffers: the request's bytes and the six numbers of its instant, or the message of
-- its first fault.
use Rattle.std.specs.Prelude.{ℕ, cond, ◌&&◌, List, [], ◌∷◌, ◌++◌, leb, length, drop, Option, None, Some, Result, Ok, Err}
use Rattle.request_text.specs.declared.typed_requests.stored.NotStored.{NotStored}
use Rattle.calendar.specs.declared.Instant.{Instant}
use Rattle.request_format.specs.Request.{size_for, bytes_for}
use Rattle.calendar.specs.declared.Scale.{Scale}
use Rattle.calendar.specs.declared.Scale.TheVariants as S
use Rattle.request_text.specs.Meaning.{Meaning, asked, refused}

-- the numbers of an instant: its scale (0 where there is no instant, 1 ephemeris time, 2 universal time), year, month,
-- day, hundredths of a second from 0h, and TAI less UTC in seconds (0 where it was not typed)
abbrev pub scale_number : Scale → ℕ
scale_number S.Ephemeris = 1
scale_number S.Universal = 2

abbrev pub instant_numbers : Option Instant → List ℕ
instant_numbers None = 0 ∷ 0 ∷ 0 ∷ 0 ∷ 0 ∷ 0 ∷ []
instant_numbers (Some i) = scale_number i.scale ∷ i.year ∷ i.month ∷ i.day ∷ i.hundredths ∷ i.offset ∷ []

-- what is answered where the buffers hold n bytes, k numbers and m bytes: the request's length; or the line, whose
-- message is in the third buffer; or the length that is needed, of the first buffer that is too short
abbrev pub stored_as : (n k m : ℕ) → Meaning → Result ℕ NotStored
stored_as n k m (asked shape ns x) = cond (leb (size_for shape) n) (cond (leb 6 k) (Ok (size_for shape)) (Err (NotStored.Short 6))) (Err (NotStored.Short (size_for shape)))
stored_as n k m (refused line message) = cond (leb (length message) m) (Err (NotStored.Fault line)) (Err (NotStored.Short (length message)))

-- ---- the three buffers afterwards. "After any refusal the buffer holds its old bytes; after success the bytes past the
-- sheet do": so too these, but that a fault has its message

-- both are stored, or neither
abbrev pub request_after : (k : ℕ) → Meaning → List ℕ → List ℕ
request_after k (asked shape ns x) old = cond (leb (size_for shape) (length old) && leb 6 k) (bytes_for shape ns ++ drop (size_for shape) old) old
request_after k (refused line message) old = old

abbrev pub instant_after : (n : ℕ) → Meaning → List ℕ → List ℕ
instant_after n (asked shape ns x) old = cond (leb (size_for shape) n && leb 6 (length old)) (instant_numbers x ++ drop 6 old) old
instant_after n (refused line message) old = old

abbrev pub fault_after : Meaning → List ℕ → List ℕ
fault_after (asked shape ns x) old = old
fault_after (refused line message) old = cond (leb (length message) (length old)) (message ++ drop (length message) old) old
