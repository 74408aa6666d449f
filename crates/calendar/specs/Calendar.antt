-- The days of the Gregorian calendar: docs/CLOCK.md, "The instant as it is typed".
use Rattle.std.specs.Prelude.{ℕ, ◌%◌, Bool, cond, not, ◌&&◌, ◌||◌, leb, eqb}

-- every fourth year is a leap year, but of those that end a century only every fourth
unfoldable pub is_leap : ℕ → Bool
is_leap y = eqb (y % 4) 0 && (not (eqb (y % 100) 0) || eqb (y % 400) 0)

unfoldable pub days_in : ℕ → ℕ → ℕ
days_in y m = cond (eqb m 2) (cond (is_leap y) 29 28) (cond (eqb m 4 || eqb m 6 || eqb m 9 || eqb m 11) 30 31)

-- "a day of the Gregorian calendar, from the year 1583 on"
unfoldable pub is_day : ℕ → ℕ → ℕ → Bool
is_day y m d = leb 1583 y && leb 1 m && leb m 12 && leb 1 d && leb d (days_in y m)
