-- What the program prints of its input, all bytes of it, an eclipse request: the answer with 901 numbers for table S and
-- "65,536 bytes for the sheet". This is a definition. The answer as text: answers, Answers.
use Rattle.std.specs.Prelude.{List, ℕ}
use Rattle.request_format.specs.declared.fields.Shape.TheVariants.{Eclipse}
use Rattle.answers.specs.Answers.{printed_for}

abbrev pub printed : List ℕ → List ℕ
printed input = printed_for Eclipse input
