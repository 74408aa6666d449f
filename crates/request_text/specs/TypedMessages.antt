-- What is told of a line that names the instant or TAI-UTC and is refused.
use Rattle.std.specs.Prelude.{ℕ, List, ◌++◌}
use Rattle.request_text.specs.declared.instants.Wrong.{Wrong}
use Rattle.request_text.specs.declared.instants.Wrong.TheVariants as W
use Rattle.decimal_text.specs.Decimals.{decimal}
use Rattle.decimal_text.specs.Texts.{letters}

abbrev pub wrong_text : Wrong → List ℕ
wrong_text W.Malformed = letters ": instant is not a date and time\n"
wrong_text W.Twice = letters ": instant is given twice\n"
wrong_text W.NotSeconds = letters ": tai-utc is not a whole number of seconds from 10 to 99\n"
wrong_text W.OffsetTwice = letters ": tai-utc is given twice\n"
wrong_text W.NeedsInstant = letters ": tai-utc needs an instant in 1972 or later\n"

unfoldable pub instant_message : ℕ → Wrong → List ℕ
instant_message i wrong = letters "line " ++ decimal i ++ wrong_text wrong
