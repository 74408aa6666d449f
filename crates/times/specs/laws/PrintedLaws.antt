-- What is written of the text that was read is what is written of the whole input, and goes to the output that it is
-- of.
use Rattle.std.specs.Prelude.{ℕ, ◌≤◌, min, ◌≡◌, refl, List, pos, length, take, Option}
use Rattle.std.proofs.Common.{sym, ap, ◌∙◌, arith, eq-eqb, ne_eqb, lt-ltb}
use Rattle.calendar.specs.declared.Instant.{Instant}
use Rattle.decimal_text.specs.Texts.{letters, Put, Copies}
use Rattle.request_format.specs.Request.{bytes_for}
use Rattle.program_io.specs.Inputs.{Read}
use Rattle.program_io.specs.Outputs.{Sent, to_output, to_error}
use Rattle.program_io.proofs.laws.InputLaws.{read_same}
use Rattle.program_io.specs.laws.OutputLaws.{put-cut}
use Rattle.request_text.specs.Meaning.{refused, meaning_of, error_of}
use Rattle.request_text.specs.laws.RoomLaws.{Bytes, Message}
use Rattle.answers.specs.Answers.{timed_text, star_timed_text}
use Rattle.times.specs.Printed.{text_by, answer_text, output_of}

module _ (k : Option Instant) (request sines room : List ℕ) {old new : List ℕ} {r : ℕ} where
  pub star-put : length request ≡ 79 → Put old 0 (star_timed_text k request sines room) new r → Put old 0 (text_by k request sines room) new r
  unfolding text_by
  star-put e p = rw (eq-eqb (length request) 79 e) p

  pub eclipse-put : (length request ≡ 79 → ⊥) → Put old 0 (timed_text k request sines room) new r → Put old 0 (text_by k request sines room) new r
  unfolding text_by
  eclipse-put e p = rw (ne_eqb (length request) 79 e) p

module _ (k : Option Instant) (request sines room : List ℕ) (t : Copies 0 901 sines) (b : Copies 0 65536 room) where
  answer-is : text_by k request sines room ≡ answer_text k request
  unfolding answer_text
  answer-is = rw (t.is, b.is)

-- a text that fills the array is too long
long_meaning : (text : List ℕ) → 65537 ≤ length text
    → meaning_of text ≡ refused 0 (letters "the text has more than 65,536 bytes\n")
unfolding meaning_of
long_meaning text h = rw (lt-ltb 65536 (length text) (omega arith))

module _ (array old new : List ℕ) (n end r : ℕ) (c : n ≤ length array) (l : length array ≡ 65537)
    (m : length old ≡ 2000000) (e : r ≡ min end (length new)) (input : List ℕ) (q : Read input array n) where
  same-meaning : meaning_of input ≡ meaning_of (take n array)
  same-meaning =
      sym
      (read_same input array n q meaning_of (refused 0 (letters "the text has more than 65,536 bytes\n"))
      (λ s k. long_meaning s (omega arith)) c)

  cut : (text : List ℕ) → Put old 0 text new end → take r new ≡ take 2000000 text
  cut text p = (put-cut text old new end p (omega arith) r e).0 ∙ ap (λ j. take j text) m

  pub listing-out : {k : ℕ} {x : Option Instant} {bytes : List ℕ} → Bytes (take n array) k x bytes → (sines room : List ℕ)
      → Copies 0 901 sines → Copies 0 65536 room → Put old 0 (text_by x (take k bytes) sines room) new end
      → Sent (pos 1) (take r new) (take 2000000 (output_of input)) (take 2000000 (error_of input))
  listing-out {k} {x} {bytes} b sines room t s p =
      let a : text_by x (take k bytes) sines room ≡ answer_text x (bytes_for b.shape b.numbers) =
      answer-is x (take k bytes) sines room t s ∙ ap (answer_text x) b.bytes in
      rw (same-meaning ∙ b.is) (to_output refl (cut _ p ∙ ap (take 2000000) a) refl)

  pub message-out : {k : ℕ} {message : List ℕ} → Message (take n array) k message → Put old 0 (take k message) new end
      → Sent (pos 2) (take r new) (take 2000000 (output_of input)) (take 2000000 (error_of input))
  message-out g p = rw (same-meaning ∙ g.is) (to_error refl refl (cut _ p ∙ ap (take 2000000) g.bytes))
