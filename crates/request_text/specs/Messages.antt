-- The message for a typed request that is refused: its line, and what is wrong there.
use Rattle.std.specs.Prelude.{ℕ, ◌-◌, List, [], ◌++◌, get_or, take}
use Rattle.request_format.specs.declared.fields.Shape.{Shape}
use Rattle.request_format.specs.Rows.{rowAt, name_of}
use Rattle.tokens.specs.declared.Class.TheVariants as C
use Rattle.tokens.specs.Text.{run_of, lines_of}
use Rattle.request_text.specs.declared.Fault.{Fault}
use Rattle.request_text.specs.Lines.{said}
use Rattle.decimal_text.specs.Decimals.{decimal}
use Rattle.decimal_text.specs.Texts.{letters}

-- line i of a text, counted from 1; one that it does not have is empty
abbrev pub line_of : List ℕ → ℕ → List ℕ
line_of text i = get_or (lines_of text) (i - 1) []

-- the first word that a line says: up to a blank, to its comment or to its end
unfoldable pub word_of : List ℕ → List ℕ
word_of l = take (run_of C.Word (said l)) (said l)

-- a field by its name; a number past the last one has none
unfoldable pub name_at : Shape → ℕ → List ℕ
name_at shape k = name_of (rowAt shape k)

-- what is wrong with a line
unfoldable pub fault_text : Shape → Fault → List ℕ → List ℕ
fault_text shape Fault.Unknown l = letters "unknown name " ++ word_of l
fault_text shape (Fault.NotNumber k) l = name_at shape k ++ letters " is not a number"
fault_text shape (Fault.NotWhole k) l = name_at shape k ++ letters " has too many decimals for a whole number of units"
fault_text shape (Fault.Unfit k) l = name_at shape k ++ letters " is too large for its bytes"
fault_text shape (Fault.Twice k) l = name_at shape k ++ letters " is given twice"
fault_text shape (Fault.Missing k) l = name_at shape k ++ letters " is missing"

-- the message: one line of text
unfoldable pub message_of : Shape → List ℕ → ℕ → Fault → List ℕ
message_of shape text i fault =
    letters "line " ++ decimal i ++ letters ": " ++ fault_text shape fault (line_of text i) ++ letters "\n"
