-- What the program writes: the mended file to standard output, and to standard error a line for each dropped stretch.
use Rattle.std.specs.Prelude.{ℕ, List, [], ◌∷◌, ◌++◌, cond, ltb, length, Result, Ok, Err}
use Rattle.sheet_types.specs.declared.refusals.Refusal.{Refusal}
use Rattle.decimal_text.specs.Decimals.{decimal}
use Rattle.decimal_text.specs.Texts.{letters}
use Rattle.listing_lines.specs.Lines.{refusal_line}
use Rattle.year_file.specs.Walk.{Stretch, kept, stretches}
use Rattle.year_file.specs.Mending.{answer_to}
use Rattle.big_endian.specs.Numbers.{eight_at}

-- `dropped START LENGTH`
unfoldable pub dropped_line : ℕ → ℕ → List ℕ
dropped_line from long = letters "dropped " ++ decimal from ++ letters " " ++ decimal long ++ letters "\n"

unfoldable pub lines_of : List Stretch → List ℕ
lines_of [] = []
lines_of (t ∷ ts) = dropped_line t.from t.long ++ lines_of ts

-- the same of 16 bytes of a note
unfoldable pub note_line : List ℕ → List ℕ
note_line s = dropped_line (eight_at s 0) (eight_at s 8)

-- a file that is not shorter than the sheets' buffer, of a bytes, is refused whole
unfoldable pub tooLong : ℕ → List ℕ
tooLong a = letters "file of " ++ decimal a ++ letters " bytes or more\n"

-- to standard output: the mended file, or nothing
abbrev pub output_by : Result (ℕ × ℕ) Refusal → List ℕ → List ℕ
output_by (Ok (k, n)) file = kept file
output_by (Err r) file = []

unfoldable pub output : ℕ → ℕ → List ℕ → List ℕ
output a b file = cond (ltb (length file) a) (output_by (answer_to a b file) file) []

-- to standard error: the lines of the stretches, or why nothing was written
abbrev pub error_by : Result (ℕ × ℕ) Refusal → List ℕ → List ℕ
error_by (Ok (k, n)) file = lines_of (stretches file)
error_by (Err r) file = refusal_line r.number r.place

unfoldable pub error : ℕ → ℕ → List ℕ → List ℕ
error a b file = cond (ltb (length file) a) (error_by (answer_to a b file) file) (tooLong a)
