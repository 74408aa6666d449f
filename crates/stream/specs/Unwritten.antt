-- What standard error says where standard output cannot be written.
-- This is a definition.
use Rattle.std.specs.Prelude.{ℕ, List, ◌++◌}
use Rattle.decimal_text.specs.Decimals.{decimal}
use Rattle.decimal_text.specs.Texts.{letters}

-- `stopped at request COUNT (byte PLACE): standard output could not be written`
unfoldable pub unwritten_line : (count at : ℕ) → List ℕ
unwritten_line count at =
    letters "stopped at request " ++ decimal count ++ letters " (byte " ++ decimal at ++ letters "): standard output could not be written\n"
