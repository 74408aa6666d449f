-- What the program writes of its input, all bytes of it, with 901 numbers for table S and 65,536 bytes for the sheet.
-- These are definitions. The sheet as it is stored: request_answers, Sheet; the line of a refusal: answers, Answers.
use Rattle.std.specs.Prelude.{List, ℕ}
use Rattle.request_answers.specs.Sheet.{sheet_stored}
use Rattle.program_io.specs.Inputs.{zeros}
use Rattle.answers.specs.Answers.{error_line}

-- to standard output: the sheet as it is stored, or nothing
unfoldable pub output : List ℕ → List ℕ
output input = sheet_stored input (zeros 901) (zeros 65536)

-- to standard error: nothing, or the line of the refusal
unfoldable pub error : List ℕ → List ℕ
error input = error_line input (zeros 901) (zeros 65536)
