-- The text of an answer stands whole at the array's start, and goes to the output that it is of.
use Rattle.std.specs.Prelude.{ℕ, ◌≤◌, ◌<◌, ◌≡◌, refl, List, ◌++◌, pos, length, take, Result, Ok, Err}
use Rattle.std.proofs.Common.{sym, ap, ◌∙◌, arith, length-append}
use Rattle.sheet_types.specs.declared.refusals.Refusal.{Refusal}
use Rattle.request_answers.specs.Sheet.{answer_to, buffer_for, stored_by, sheet_stored}
use Rattle.decimal_text.specs.Decimals.{decimal}
use Rattle.decimal_text.specs.laws.DecimalLaws.{decimal_64}
use Rattle.decimal_text.specs.Texts.{letters, Put, Counts}
use Rattle.decimal_text.specs.Texts.{Copies}
use Rattle.listing_lines.specs.Lines.{refusal_text, refusal_line}
use Rattle.program_io.specs.Inputs.{Read}
use Rattle.program_io.specs.Outputs.{Sent, to_output, to_error}
use Rattle.program_io.specs.laws.OutputLaws.{put_whole}
use Rattle.answers.specs.Answers.{error_by, error_line}
use Rattle.answers.specs.laws.Reads.{stored-read}
use Rattle.sheet_bytes.specs.Streams.{output, error}

-- a refusal's two numbers have 64 bits, and its line 50 bytes at most
refusal-length : (x y : ℕ) → x < 18446744073709551616 → y < 18446744073709551616 → length (refusal_line x y) ≤ 50
unfolding refusal_line refusal_text
refusal-length x y h g =
    omega (
      arith,
      decimal_64 x h,
      decimal_64 y g,
      length-append (decimal x ++ letters " " ++ decimal y) (letters "\n"),
      length-append (decimal x ++ letters " ") (decimal y),
      length-append (decimal x) (letters " "),
    )

pub line-whole : (x y : ℕ) (old new : List ℕ) (r : ℕ) → x < 18446744073709551616 → y < 18446744073709551616 → length old ≡ 65536
    → Put old 0 (refusal_line x y) new r → (take r new ≡ refusal_line x y) × Counts r new
line-whole x y old new r h g l p = put_whole (refusal_line x y) old new r p (omega (arith, refusal-length x y h g)) (omega arith)

-- ---- the answer to what was read, and the buffer that it left

module _ (array sines room left : List ℕ) (n : ℕ) (a : Result ℕ Refusal) (t : Copies 0 901 sines) (b : Copies 0 65536 room) (c : n ≤ length array)
    (l : length array ≡ 116) (is : a ≡ answer_to (take n array) sines room) (by-rule : left ≡ buffer_for (take n array) sines room) where
  stored-by : stored_by a left ≡ sheet_stored (take n array) sines room
  unfolding sheet_stored
  stored-by = rw (is, by-rule)

  error-by : error_by a ≡ error_line (take n array) sines room
  unfolding error_line
  error-by = rw is

  output-is : (input : List ℕ) → sheet_stored input sines room ≡ output input
  unfolding output
  output-is input = rw (t.is, b.is)

  line-is : (input : List ℕ) → error_line input sines room ≡ error input
  unfolding error
  line-is input = rw (t.is, b.is)

  stored_is : (input : List ℕ) → Read input array n → stored_by a left ≡ output input
  stored_is input q = stored-by ∙ (stored-read input array n q c sines room l).0 ∙ output-is input

  error-is : (input : List ℕ) → Read input array n → error_by a ≡ error input
  error-is input q = error-by ∙ (stored-read input array n q c sines room l).1 ∙ line-is input

  pub sheet-out : (k : ℕ) → a ≡ Ok k → (text : List ℕ) → text ≡ take k left → (input : List ℕ) → Read input array n
      → Sent (pos 1) text (output input) (error input)
  sheet-out k e text x input q =
      to_output refl (x ∙ ap (λ (y : Result ℕ Refusal). stored_by y left) (sym e) ∙ stored_is input q) (ap error_by (sym e) ∙ error-is input q)

  pub line_out : (x : Refusal) → a ≡ Err x → (text : List ℕ) → text ≡ refusal_line x.number x.place → (input : List ℕ) → Read input array n
      → Sent (pos 2) text (output input) (error input)
  line_out x e text y input q =
      to_error refl (ap (λ (z : Result ℕ Refusal). stored_by z left) (sym e) ∙ stored_is input q) (y ∙ ap error_by (sym e) ∙ error-is input q)
