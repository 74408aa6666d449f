-- The instant that is typed: the date and time of second 0, and TAI less UTC. The table of docs/CLOCK.md, "The
-- instant as it is typed".
use Rattle.std.specs.Prelude.{ℕ, ◌+◌, ◌*◌, Bool, cond, ◌&&◌, ◌||◌, List, leb, Option, Some, None}
use Rattle.request_format.specs.Rows.{letters}
use Rattle.tokens.specs.declared.Class.TheVariants as C
use Rattle.tokens.specs.Text.{all_of}
use Rattle.request_text.specs.Lines.{word_in, after_word}
use Rattle.calendar.specs.declared.Scale.{Scale}
use Rattle.calendar.specs.declared.Scale.TheVariants as S
use Rattle.calendar.specs.declared.Instant.{Instant}
use Rattle.calendar.specs.Calendar.{is_day}
use Rattle.request_text.specs.Forms.{has_form, two_at}

-- ---- date, time and scale

-- "`YYYY-MM-DD`, ten characters"
abbrev pub year_of : List ℕ → ℕ
year_of w = 100 * two_at w 0 + two_at w 2

unfoldable pub is_date : List ℕ → Bool
is_date w = has_form (letters "0000-00-00") w && is_day (year_of w) (two_at w 5) (two_at w 8)

-- "`HH:MM:SS`, .. two digits each, and if wanted a point with one or two decimals"
unfoldable pub time_form : List ℕ → Bool
time_form w = has_form (letters "00:00:00") w || has_form (letters "00:00:00.0") w || has_form (letters "00:00:00.00") w

-- "from 00:00:00 to 23:59:59"
unfoldable pub is_time : List ℕ → Bool
is_time w = time_form w && leb (two_at w 0) 23 && leb (two_at w 3) 59 && leb (two_at w 6) 59

-- hundredths of a second from 0h; decimals that are not typed are 0
unfoldable pub hundredths_of : List ℕ → ℕ
hundredths_of w = 100 * (3600 * two_at w 0 + 60 * two_at w 3 + two_at w 6) + two_at w 9

-- ---- the words

unfoldable pub instant_at : List ℕ → List ℕ → Scale → Instant
instant_at date time scale =
    record { year = year_of date; month = two_at date 5; day = two_at date 8; hundredths = hundredths_of time; scale = scale; offset = 0 }

-- "`ET`, ephemeris time .., or `UT`, universal time"
unfoldable pub in_scale : List ℕ → List ℕ → List ℕ → Option Instant
in_scale date time w =
    cond (has_form (letters "ET") w) (Some (instant_at date time S.Ephemeris))
    (cond (has_form (letters "UT") w) (Some (instant_at date time S.Universal)) None)

-- "blanks alone behind"
unfoldable pub scaled : List ℕ → List ℕ → List ℕ → Option Instant
scaled date time s = cond (all_of C.Blank (after_word s)) (in_scale date time (word_in s)) None

unfoldable pub timed : List ℕ → List ℕ → Option Instant
timed date s = cond (is_time (word_in s)) (scaled date (word_in s) (after_word s)) None

-- "after the name and blanks stand, with blanks between them": date, time, scale
unfoldable pub instant_of : List ℕ → Option Instant
instant_of s = cond (is_date (word_in s)) (timed (word_in s) (after_word s)) None

-- ---- TAI less UTC

-- "whole seconds, two digits, 10 to 99", blanks before and behind; 0 for any other words
unfoldable pub seconds_in : List ℕ → ℕ
seconds_in s =
    cond (all_of C.Blank (after_word s) && has_form (letters "00") (word_in s) && leb 10 (two_at (word_in s) 0)) (two_at (word_in s) 0) 0
