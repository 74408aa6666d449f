-- What the program writes of a typed request: its bytes. What is wrong with the text: request_text, Meaning.
use Rattle.std.specs.Prelude.{List, [], ℕ}
use Rattle.request_format.specs.Request.{bytes_for}
use Rattle.request_text.specs.Meaning.{Meaning, asked, refused, meaning_of}

-- to standard output: the bytes of the numbers typed, or nothing
abbrev pub output_by : Meaning → List ℕ
output_by (asked shape ns x) = bytes_for shape ns
output_by (refused line message) = []

abbrev pub output_of : List ℕ → List ℕ
output_of text = output_by (meaning_of text)
