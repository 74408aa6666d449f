-- Document 02, wish 13: the mirror of a request (requests, Mirror), an eclipse's or a star's, second by second and
-- entry by entry.
use Rattle.std.specs.Prelude.{◌≡◌, List, ℕ, ℤ, neg_ℤ, length, Ok}
use Rattle.sheet_types.specs.declared.phases.Phase.{Phase}
use Rattle.shadow_geometry.specs.Shadow.{u, v, M}
use Rattle.requests.specs.declared.Occultation.{Occultation}
use Rattle.requests.specs.Requests.{checked}
use Rattle.requests.specs.Mirror.{mirror_for}
use Rattle.seconds.specs.Seconds.{moment_at, state_at, magnitude_at}
use Rattle.local_circumstances.specs.Courses.{sheetOf}
use Rattle.local_circumstances.specs.Directions.{AlikeButDirections}
use Rattle.local_circumstances.specs.Course.{course_of}
use Rattle.circumstances.specs.WrittenSheet.{sheet_bytes}
use Rattle.circumstances.specs.Sheet.{sheet_answer}

-- "in a request within the limits, change the sign of all y and d coefficients and of the latitude, and ..
pub record Mirrored (o : Occultation) : Type 0 where
  -- the mirror is within the limits
  pub within : checked (mirror_for o) ≡ Ok tt
  -- .. every second has the same state, M and magnitude, ..
  pub state : (φ : Phase) (τ : ℤ) → state_at (mirror_for o) φ τ ≡ state_at o φ τ
  pub square : (τ : ℤ) → M (moment_at (mirror_for o) τ) ≡ M (moment_at o τ)
  pub magnitude : (τ : ℤ) → magnitude_at (mirror_for o) τ ≡ magnitude_at o τ
  -- for u is the same, and v the opposite
  pub east : (τ : ℤ) → u (moment_at (mirror_for o) τ) ≡ u (moment_at o τ)
  pub north : (τ : ℤ) → v (moment_at (mirror_for o) τ) ≡ neg_ℤ (v (moment_at o τ))
  -- .. so the same entries in the same places. Directions are left out, as they round down.
  pub entries : AlikeButDirections (sheetOf (course_of (mirror_for o))) (sheetOf (course_of o))
  -- the sheet is as long, so buffers of every length get the same answer
  pub bytes : length (sheet_bytes (mirror_for o)) ≡ length (sheet_bytes o)
  pub answer : (sines buffer : List ℕ) → sheet_answer (mirror_for o) sines buffer ≡ sheet_answer o sines buffer
  -- Taking the mirror twice gives the first request back."
  pub twice : mirror_for (mirror_for o) ≡ o
