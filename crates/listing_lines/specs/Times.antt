-- Tenths of a second from 0h of a day as a time of day: docs/CLOCK.md, "The form", whose sentences are quoted.
-- `Printed` says how a time is read back.
use Rattle.std.specs.Prelude.{ℕ, zero, suc, ◌/◌, ◌%◌, List, [], ◌∷◌, ◌++◌, ℤ, pos, negsuc, ◌-ℤ◌, ◌*ℤ◌}
use Rattle.rounding.specs.Near.{floor_z}
use Rattle.rounding.specs.Parts.{pos_p}
use Rattle.decimal_text.specs.Decimals.{digit, signed}
use Rattle.decimal_text.specs.Texts.{letters}

-- the last two digits of a number
abbrev pub two : ℕ → List ℕ
two n = digit (n / 10 % 10) ∷ digit (n % 10) ∷ []

-- `HH:MM:SS` of n seconds
unfoldable pub seconds_text : ℕ → List ℕ
seconds_text n = two (n / 3600) ++ letters ":" ++ two (n / 60 % 60) ++ letters ":" ++ two (n % 60)

-- `HH:MM:SS.T` of n tenths
unfoldable pub of_day_text : ℕ → List ℕ
of_day_text n = seconds_text (n / 10) ++ letters "." ++ (digit (n % 10) ∷ [])

-- "n less whole days": the day, rounded down, and the tenths of it
abbrev pub day_of : ℤ → ℤ
day_of n = floor_z n (pos 864000)

abbrev pub tenths_of : ℤ → ℕ
tenths_of n = pos_p (n -ℤ pos 864000 *ℤ day_of n)

-- "On the day after the instant's date `+1d` follows at once, on the day before it `-1d`", and so on for days farther
-- off
unfoldable pub day_text : ℤ → List ℕ
day_text (pos zero) = []
day_text (pos (suc n)) = letters "+" ++ signed (pos (suc n)) ++ letters "d"
day_text (negsuc n) = signed (negsuc n) ++ letters "d"

-- "n tenths are `HH:MM:SS.T` of n less whole days"
unfoldable pub time_text : ℤ → List ℕ
time_text n = of_day_text (tenths_of n) ++ day_text (day_of n)
