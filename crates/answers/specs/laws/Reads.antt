-- A request's bytes read into an array of one byte more: the answer to what was read is the answer to the whole input.
use Rattle.std.specs.Prelude.{ℕ, ◌≤◌, ◌<◌, min, ◌≡◌, refl, Bool, true, false, cond, List, [], ◌∷◌, leb, eqb, length, take, drop}
use Rattle.std.proofs.Common.{ap, ◌∙◌, arith, length-drop}
use Rattle.request_format.specs.declared.fields.Shape.{Shape}
use Rattle.request_format.specs.declared.fields.Shape.TheVariants as S
use Rattle.request_format.specs.Fields.{bytes_in}
use Rattle.request_format.specs.Layout.{Piece, kind, number, size_of, Reading, misshaped, before, number_at, read_by}
use Rattle.request_format.specs.Request.{pieces_for, size_for, reading_for}
use Rattle.request_format.specs.Input.{input_of, star_asked}
use Rattle.request_answers.specs.Second.{wish}
use Rattle.request_answers.specs.Sheet.{answer_to, buffer_for, sheet_stored}
use Rattle.decimal_text.specs.Texts.{Put}
use Rattle.program_io.specs.Inputs.{Read, zeros}
use Rattle.program_io.specs.laws.OutputLaws.{put-cut}
use Rattle.program_io.proofs.laws.InputLaws.{read_same}
use Rattle.answers.specs.Answers.{answer_text, printed_for, error_line}

-- ---- more bytes than a layout has are not of its shape

either : (b : Bool) (r : Reading) → r ≡ misshaped → cond b r misshaped ≡ misshaped
either true r e = e
either false r e = refl

too_many : (l : List Piece) (s : List ℕ) → size_of l < length s → read_by l s ≡ misshaped
unfolding read_by
too_many [] [] h = absurd (omega arith)
too_many [] (x ∷ s) h = refl
too_many (kind b ∷ l) [] h = refl
too_many (kind b ∷ l) (x ∷ s) h = either (eqb x b) (read_by l s) (too_many l s (omega arith))
too_many (number w ∷ l) s h =
    either (leb (bytes_in w) (length s)) (before (number_at w s 0) (read_by l (drop (bytes_in w) s)))
    (ap (before (number_at w s 0)) (too_many l (drop (bytes_in w) s) (omega (arith, length-drop (bytes_in w) s))))

-- ---- the same reading

module _ (input array : List ℕ) (n : ℕ) (r : Read input array n) (c : n ≤ length array) where
  same-reading : (shape : Shape) → size_for shape < length array → reading_for shape (take n array) ≡ reading_for shape input
  unfolding reading_for
  same-reading shape h =
      read_same input array n r (read_by (pieces_for shape)) misshaped (λ s k. too_many (pieces_for shape) s (omega arith)) c

  same-wish : (shape : Shape) → size_for shape < length array → wish shape (take n array) ≡ wish shape input
  unfolding input_of star_asked
  same-wish S.Eclipse h = rw (same-reading S.Eclipse h)
  same-wish S.Star h = rw (same-reading S.Star h)

  module _ (sines room : List ℕ) where
    pub text-read : (shape : Shape) → size_for shape < length array → answer_text shape (take n array) sines room ≡ answer_text shape input sines room
    unfolding answer_text
    text-read shape h = rw (same-wish shape h)

    -- of an eclipse, read into 116 bytes
    pub stored-read : length array ≡ 116
        → (sheet_stored (take n array) sines room ≡ sheet_stored input sines room) × (error_line (take n array) sines room ≡ error_line input sines room)
    unfolding sheet_stored error_line answer_to buffer_for
    stored-read h = rw (same-wish S.Eclipse (omega arith)) (refl, refl)

-- ---- the text that a program prints is that of its whole input
pub text_out : (shape : Shape) (array old new : List ℕ) (n end r : ℕ) → n ≤ length array → size_for shape < length array
    → length old ≡ 400000 → length old < 18446744073709551616 → Put old 0 (printed_for shape (take n array)) new end → r ≡ min end (length new)
    → (input : List ℕ) → Read input array n → take r new ≡ take 400000 (printed_for shape input)
unfolding printed_for
text_out shape array old new n end r c l k g p e input q =
    (put-cut (printed_for shape (take n array)) old new end p g r e).0
    ∙ ap (λ j. take j (printed_for shape (take n array))) k
    ∙ ap (take 400000) (text-read input array n q c (zeros 901) (zeros 65536) shape l)
