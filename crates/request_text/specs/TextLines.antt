-- The lines of a text that are still to come, as they are read one after the other.
use Rattle.std.specs.Prelude.{List, ℕ}
use Rattle.tokens.specs.Text.{lines_of}
use Rattle.request_text.specs.declared.lines.Lines.{Lines}

unfoldable pub lines_left : Lines → List (List ℕ)
lines_left lines = lines_of lines.rest.now
