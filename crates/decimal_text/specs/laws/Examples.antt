-- Numbers, a line and lines as text, computed.
use Rattle.std.specs.Prelude.{◌≡◌, refl, [], ◌∷◌, ◌++◌, pos, negsuc}
use Rattle.decimal_text.specs.Decimals.{digits_of, decimal, signed}
use Rattle.decimal_text.specs.Texts.{letters}
use Rattle.decimal_text.specs.Patterns.{piece, filled}
use Rattle.decimal_text.specs.Rows.{rows, each_part}

pub numbers : decimal 0 ∷ decimal 10 ∷ decimal 1037735 ∷ decimal 18446744073709551615 ∷ signed (negsuc 5400) ∷ signed (pos 0) ∷ []
    ≡ letters "0" ∷ letters "10" ∷ letters "1037735" ∷ letters "18446744073709551615" ∷ letters "-5401" ∷ letters "0" ∷ []
unfolding signed decimal digits_of
numbers = refl

pub line : filled (pos 12 ∷ negsuc 6 ∷ []) 0 (letters "from # to #\n") ≡ letters "from 12 to -7\n"
unfolding filled piece signed decimal digits_of
line = refl

pub records : each_part 2 (λ s. s ++ letters "\n") (letters "abcde") ≡ letters "ab\ncd\n"
unfolding rows
records = refl
