-- What the program prints: to standard output the values of each seven rows, or their refusal; to standard error the
-- first fault.
use Rattle.std.specs.Prelude.{ℕ, ◌+◌, cond, List, [], ◌∷◌, ◌++◌, eqb, ltb, ℤ, length, Result, Ok, Err}
use Rattle.sheet_types.specs.declared.refusals.Refusal.{Refusal}
use Rattle.decimal_text.specs.Decimals.{decimal}
use Rattle.decimal_text.specs.Texts.{letters}
use Rattle.decimal_text.specs.Patterns.{filled}
use Rattle.decimal_text.specs.Rows.{rows}
use Rattle.listing_lines.specs.Lines.{refusal_line}
use Rattle.besselian_rows.specs.Tables.{answer_to, values_of}
use Rattle.table_elements.specs.declared.typed_rows.Fault.{Fault}
use Rattle.table_elements.specs.declared.typed_rows.Fault.TheVariants as F
use Rattle.table_elements.specs.Reading.{Said, nothing, row, faulty, line_of, lines_of}

-- seven lines of eight values
unfoldable pub values_text : List ℤ → List ℕ
values_text values = filled values 0 (rows (λ i. letters "# # # # # # # #\n") 7)

abbrev pub answer_text : Result Unit Refusal → List ℤ → List ℕ
answer_text (Ok tt) numbers = values_text (values_of numbers 7)
answer_text (Err r) numbers = refusal_line r.number r.place

unfoldable pub table_text : List ℤ → List ℕ
table_text numbers = answer_text (answer_to numbers 56) numbers

unfoldable pub message_of : Fault → List ℕ
message_of F.NotWhole = letters ": not a whole number\n"
message_of F.TooLarge = letters ": a number is too large for 64 bits\n"
message_of F.More = letters ": more than six numbers\n"
message_of F.Fewer = letters ": fewer than six numbers\n"
message_of F.Unfinished = letters ": the last table has fewer than seven rows\n"

-- a fault, after the number of its line
unfoldable pub fault_line : ℕ → Fault → List ℕ
fault_line line fault = letters "line " ++ decimal line ++ message_of fault

pub record Streams : Type 0 where
  pub output : List ℕ
  pub error : List ℕ

abbrev pub told : List ℕ → Streams
told message = record { output = []; error = message }

abbrev pub first : List ℕ → Streams → Streams
first text s = record { output = text ++ s.output; error = s.error }

-- a line, after the numbers of the table's rows before it, and what comes of the lines after it: a table is put with
-- its 42nd number, and a fault ends the reading
abbrev pub of_line : Said → ℕ → List ℤ → (List ℤ → Streams) → Streams
of_line nothing k seen go = go seen
of_line (faulty f) k seen go = told (fault_line k f)
of_line (row ns) k seen go = cond (eqb (length (seen ++ ns)) 42) (first (table_text (seen ++ ns)) (go [])) (go (seen ++ ns))

-- the lines from line k on; after the last, no table may be begun
unfoldable pub read_lines : List (List ℕ) → ℕ → List ℤ → Streams
read_lines [] k seen = told (cond (eqb (length seen) 0) [] (fault_line k F.Unfinished))
read_lines (l ∷ ls) k seen = of_line (line_of l) k seen (read_lines ls (k + 1))

unfoldable pub printed : List ℕ → Streams
printed text = cond (ltb 65536 (length text)) (told (letters "the text has more than 65,536 bytes\n")) (read_lines (lines_of text) 1 [])
