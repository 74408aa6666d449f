-- What is written of the text that was read is what is written of the whole input, and goes to the output that it is
-- of.
use Rattle.std.specs.Prelude.{ℕ, ◌≤◌, ◌≡◌, refl, List, pos, length, take, Option}
use Rattle.std.proofs.Common.{sym, ◌∙◌, arith, lt-ltb}
use Rattle.calendar.specs.declared.Instant.{Instant}
use Rattle.decimal_text.specs.Texts.{letters}
use Rattle.request_format.specs.declared.fields.Shape.{Shape}
use Rattle.request_format.specs.declared.fields.Shape.TheVariants as S
use Rattle.request_format.specs.Request.{size_for}
use Rattle.program_io.specs.Inputs.{Read}
use Rattle.program_io.specs.Outputs.{Sent, to_output, to_error}
use Rattle.program_io.proofs.laws.InputLaws.{read_same}
use Rattle.request_text.specs.laws.RoomLaws.{Bytes, Message}
use Rattle.request_text.specs.Meaning.{refused, meaning_of, error_of}
use Rattle.request.specs.Streams.{output_of}

-- a request has 115 bytes at most
size_le : (shape : Shape) → size_for shape ≤ 115
size_le S.Eclipse = omega arith
size_le S.Star = omega arith

pub request-fits : {text : List ℕ} {k : ℕ} {x : Option Instant} {room : List ℕ} → Bytes text k x room
    → length (take k room) ≤ 115
request-fits b = omega (arith, b.counts, b.size, size_le b.shape)

-- a text that fills the array is too long
long_meaning : (text : List ℕ) → 65537 ≤ length text
    → meaning_of text ≡ refused 0 (letters "the text has more than 65,536 bytes\n")
unfolding meaning_of
long_meaning text h = rw (lt-ltb 65536 (length text) (omega arith))

module _ (array : List ℕ) (n : ℕ) (c : n ≤ length array) (l : length array ≡ 65537) (input : List ℕ)
    (q : Read input array n) where
  same-meaning : meaning_of input ≡ meaning_of (take n array)
  same-meaning =
      sym
      (read_same input array n q meaning_of (refused 0 (letters "the text has more than 65,536 bytes\n"))
      (λ s k. long_meaning s (omega arith)) c)

  pub request-out : {k : ℕ} {x : Option Instant} {room : List ℕ} → Bytes (take n array) k x room → (text : List ℕ)
      → text ≡ take k room → Sent (pos 1) text (output_of input) (error_of input)
  request-out b text e = rw (same-meaning ∙ b.is) (to_output refl (e ∙ b.bytes) refl)

  pub message-out : {k : ℕ} {room : List ℕ} → Message (take n array) k room
      → Sent (pos 2) (take k room) (output_of input) (error_of input)
  message-out m = rw (same-meaning ∙ m.is) (to_error refl refl m.bytes)
