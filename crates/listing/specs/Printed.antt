-- What the program writes of its input, all bytes of it.
-- These are definitions. The listing of a sheet, or its refusal: listings, Listings.
use Rattle.std.specs.Prelude.{ℕ, Bool, cond, List, [], ltb, length}
use Rattle.decimal_text.specs.Texts.{letters}
use Rattle.listings.specs.Listings.{told, printed}

-- a sheet can repeat an open entry of a single second without end, so no size holds them all: an input of 327,680
-- bytes is too long for the program
abbrev pub taken : List ℕ → Bool
taken input = ltb (length input) 327680

-- to standard output: the listing, or the refusal
unfoldable pub output : List ℕ → List ℕ
output input = cond (taken input) (printed (told input)) []

-- to standard error: nothing, or that the input is too long
unfoldable pub error : List ℕ → List ℕ
error input = cond (taken input) [] (letters "sheet of 327680 bytes or more\n")
