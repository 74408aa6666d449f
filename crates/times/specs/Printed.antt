-- What the program writes of its input, all bytes of it, a typed text: with 901 numbers for table S and 65,536 bytes
-- for the sheet. These are definitions. What a text is: request_text, Meaning; the answer with clock times: answers,
-- Answers.
use Rattle.std.specs.Prelude.{cond, List, [], ℕ, eqb, length, Option}
use Rattle.calendar.specs.declared.Instant.{Instant}
use Rattle.request_format.specs.Request.{bytes_for}
use Rattle.program_io.specs.Inputs.{zeros}
use Rattle.request_text.specs.Meaning.{Meaning, asked, refused, meaning_of}
use Rattle.answers.specs.Answers.{timed_text, star_timed_text}

-- the answer to a request's bytes with altitudes and notes: 79 are a star's. Times are shown where there is an
-- instant.
unfoldable pub text_by : Option Instant → (request sines room : List ℕ) → List ℕ
text_by k request sines room = cond (eqb (length request) 79) (star_timed_text k request sines room) (timed_text k request sines room)

unfoldable pub answer_text : Option Instant → (request : List ℕ) → List ℕ
answer_text k request = text_by k request (zeros 901) (zeros 65536)

-- to standard output: the answer to the bytes of the numbers typed, or nothing
abbrev pub output_by : Meaning → List ℕ
output_by (asked shape ns x) = answer_text x (bytes_for shape ns)
output_by (refused line message) = []

abbrev pub output_of : List ℕ → List ℕ
output_of text = output_by (meaning_of text)
