-- The ways of an answer: what is put.
use Rattle.std.specs.Prelude.{◌≡◌, refl, List, ℕ, ℤ, pos, take, Option, Result, Ok, Err, None}
use Rattle.std.proofs.Common.{ap, ◌∙◌}
use Rattle.requests.specs.declared.Occultation.{Occultation}
use Rattle.calendar.specs.declared.Instant.{Instant}
use Rattle.sheet_types.specs.declared.refusals.Refusal.{Refusal}
use Rattle.request_answers.specs.Second.{wish}
use Rattle.request_answers.specs.Sheet.{answer_by, buffer_by}
use Rattle.decimal_text.specs.Texts.{Put, Copies}
use Rattle.request_format.specs.declared.fields.Shape.{Shape}
use Rattle.listing_lines.specs.Lines.{refusal_line}
use Rattle.listings.specs.Listings.{timed, printed}
use Rattle.listings.specs.laws.ListingLaws.{timed-off}
use Rattle.answers.specs.Answers.{text_by, answer_text, printed_for, sky_of, delta_by, timed_by, timed_shaped}

-- ---- an answer and the bytes that it left

module _ (k : Option Instant) (d : ℤ) (y : Option Occultation) (a : Result ℕ Refusal) (room old new : List ℕ) (r : ℕ) where
  pub put_written : (n : ℕ) → a ≡ Ok n → Put old 0 (printed (timed k d y (take n room))) new r → Put old 0 (timed_by k d y a room) new r
  put_written n e p = rw e p

  pub put_refused : (x : Refusal) → a ≡ Err x → Put old 0 (refusal_line x.number x.place) new r → Put old 0 (timed_by k d y a room) new r
  put_refused x e p = rw e p

-- with no clock
off : (a : Result ℕ Refusal) (room : List ℕ) → timed_by None (pos 0) None a room ≡ text_by a room
off (Ok n) room = ap printed (timed-off (pos 0) (take n room))
off (Err r) room = refl

-- ---- what bytes of a shape are answered

module _ (shape : Shape) (request sines room : List ℕ) (a : Result ℕ Refusal) (is : a ≡ answer_by (wish shape request) sines room)
    (left : List ℕ) (by-rule : left ≡ buffer_by (wish shape request) sines room) where
  pub text-is : timed_by None (pos 0) None a left ≡ answer_text shape request sines room
  unfolding answer_text
  text-is = off a left ∙ rw (is, by-rule)

  -- with clock times
  pub timed-is : (k : Option Instant) (d : ℤ) (y : Option Occultation) → d ≡ delta_by shape request → y ≡ sky_of (wish shape request)
      → timed_by k d y a left ≡ timed_shaped shape k request sines room
  timed-is k d y e f = rw (is, by-rule, e, f)

-- with a program's buffers
pub printed-is : (shape : Shape) (request sines room : List ℕ) → Copies 0 901 sines → Copies 0 65536 room → answer_text shape request sines room ≡ printed_for shape request
unfolding printed_for
printed-is shape request sines room t b = rw (t.is, b.is)
