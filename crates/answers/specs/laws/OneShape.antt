-- The text and the buffer of one shape's bytes, as the definitions of that shape name them; `AnswerLaws` and `TimedLaws`
-- have the same for any shape.
use Rattle.std.specs.Prelude.{◌≡◌, List, ℕ, ℤ, Option, Result}
use Rattle.requests.specs.declared.Occultation.{Occultation}
use Rattle.calendar.specs.declared.Instant.{Instant}
use Rattle.sheet_types.specs.declared.refusals.Refusal.{Refusal}
use Rattle.request_answers.specs.Second.{wish}
use Rattle.request_answers.specs.Sheet.{answer_to, buffer_for, star_answer, star_buffer}
use Rattle.request_format.specs.declared.fields.Shape.TheVariants as S
use Rattle.request_format.specs.Input.{delta_of, star_delta}
use Rattle.answers.specs.Answers.{sky_of, timed_by, timed_text, star_timed_text}
use Rattle.answers.specs.Timed.{told_by, timed_told, star_timed_told}

module _ (request sines room : List ℕ) (a : Result ℕ Refusal) (left : List ℕ) (k : Option Instant) (d : ℤ) (y : Option Occultation) where
  -- ---- the answer to a star's bytes
  module _ (is : a ≡ star_answer request sines room) (by-rule : left ≡ star_buffer request sines room) where
    pub star-timed : d ≡ star_delta request → y ≡ sky_of (wish S.Star request) → timed_by k d y a left ≡ star_timed_text k request sines room
    unfolding star_timed_text
    star-timed e f = rw (is, by-rule, e, f)

    pub star-told-is : d ≡ star_delta request → y ≡ sky_of (wish S.Star request) → told_by k d y a left ≡ star_timed_told k request sines room
    unfolding star_timed_told
    star-told-is e f = rw (is, by-rule, e, f)

  -- ---- the answer to an eclipse's bytes
  module _ (is : a ≡ answer_to request sines room) (by-rule : left ≡ buffer_for request sines room) where
    pub eclipse-timed : d ≡ delta_of request → y ≡ sky_of (wish S.Eclipse request) → timed_by k d y a left ≡ timed_text k request sines room
    unfolding timed_text
    eclipse-timed e f = rw (is, by-rule, e, f)

    pub eclipse-told-is : d ≡ delta_of request → y ≡ sky_of (wish S.Eclipse request) → told_by k d y a left ≡ timed_told k request sines room
    unfolding timed_told
    eclipse-told-is e f = rw (is, by-rule, e, f)
