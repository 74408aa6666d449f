-- Worked examples of an instant's words and of texts: each is computed.
use Rattle.std.specs.Prelude.{◌≡◌, refl, [], ◌∷◌, map, ℕ, Some, None, Ok, Err}
use Prim.Native.String.{String}
use Rattle.request_format.specs.Rows.{letters}
use Rattle.tokens.specs.Text.{run_of, lines_of}
use Rattle.request_text.specs.Names.{named}
use Rattle.calendar.specs.declared.Scale.{Scale}
use Rattle.calendar.specs.declared.Scale.TheVariants as S
use Rattle.calendar.specs.declared.Instant.{Instant}
use Rattle.request_text.specs.declared.instants.Wrong.TheVariants as Wrong
use Rattle.request_text.specs.Forms.{has_form, two_at}
use Rattle.calendar.specs.Calendar.{is_leap, days_in, is_day}
use Rattle.request_text.specs.Instants.{is_date, time_form, is_time, hundredths_of, instant_at, in_scale, scaled, timed, instant_of, seconds_in}
use Rattle.request_text.specs.Told.{over_lines, told_in}

abbrev day : ℕ → ℕ → ℕ → ℕ → Scale → Instant
day y m d t scale = record { year = y; month = m; day = d; hundredths = t; scale = scale; offset = 0 }

-- both scales; none, one and two decimals; the first and the last instant that can be typed; leap days; blanks
pub good : map (λ (s : String). instant_of (letters s))
    ("2017-08-21 18:00:00 ET" ∷ "2017-08-21 18:00:00.5 UT" ∷ "1954-06-30 12:34:56.78 UT" ∷ "1583-01-01 00:00:00 ET" ∷ "9999-12-31 23:59:59.99 ET"
    ∷ "2000-02-29 12:00:00 ET" ∷ "2024-02-29 12:00:00 ET" ∷ " \t2017-08-21\t 18:00:00\rET \r" ∷ [])
    ≡ Some (day 2017 8 21 6480000 S.Ephemeris) ∷ Some (day 2017 8 21 6480050 S.Universal) ∷ Some (day 1954 6 30 4529678 S.Universal)
    ∷ Some (day 1583 1 1 0 S.Ephemeris) ∷ Some (day 9999 12 31 8639999 S.Ephemeris) ∷ Some (day 2000 2 29 4320000 S.Ephemeris)
    ∷ Some (day 2024 2 29 4320000 S.Ephemeris) ∷ Some (day 2017 8 21 6480000 S.Ephemeris) ∷ []
unfolding instant_of timed scaled in_scale instant_at hundredths_of is_time time_form is_date is_day days_in is_leap has_form two_at run_of
good = refl

-- no leap day; before the calendar; past its ends; a form that is not quite it
pub malformed : map (λ (s : String). instant_of (letters s))
    ("1900-02-29 12:00:00 ET" ∷ "2023-02-29 12:00:00 ET" ∷ "1582-12-31 12:00:00 ET" ∷ "2017-13-01 12:00:00 ET" ∷ "2017-04-31 12:00:00 ET"
    ∷ "2017-08-00 12:00:00 ET" ∷ "2017-08-21 24:00:00 ET" ∷ "2017-08-21 23:60:00 ET" ∷ "2017-08-21 18:00:00.125 ET" ∷ "2017-08-21 18:00:00. ET"
    ∷ "2017-8-21 18:00:00 ET" ∷ "2017-08-21 18:00 ET" ∷ "2017-08-21 18:00:00" ∷ "2017-08-21 18:00:00 TT" ∷ "2017-08-21 18:00:00 ET x" ∷ "" ∷ [])
    ≡ None ∷ None ∷ None ∷ None ∷ None ∷ None ∷ None ∷ None ∷ None ∷ None ∷ None
    ∷ None ∷ None ∷ None ∷ None ∷ None ∷ []
unfolding instant_of timed scaled in_scale instant_at hundredths_of is_time time_form is_date is_day days_in is_leap has_form two_at run_of
malformed = refl

-- none; one with a comment after it; a name that only begins so; twice; a second that is malformed; a first that is
pub texts : map (λ (s : String). told_in (letters s))
    ("x0 1\n# instant 2017-08-21 18:00:00 ET\n" ∷ "x0 1\n\tinstant 2017-08-21 18:00:00 ET# greatest\n" ∷ "instants 1\n"
    ∷ "instant 2017-08-21 18:00:00 ET\n\ninstant 2017-08-21 18:00:00 ET" ∷ "instant 2017-08-21 18:00:00 ET\ninstant\n" ∷ "\ninstant#\ninstant 2017-08-21 18:00:00 ET" ∷ [])
    ≡ Ok None ∷ Ok (Some (day 2017 8 21 6480000 S.Ephemeris)) ∷ Ok None ∷ Err (3, Wrong.Twice) ∷ Err (2, Wrong.Malformed)
    ∷ Err (2, Wrong.Malformed) ∷ []
unfolding told_in over_lines instant_of timed scaled in_scale instant_at hundredths_of is_time time_form is_date is_day days_in is_leap has_form two_at run_of lines_of named
texts = refl

-- TAI less UTC after the instant and before it; out of its range; no number; no instant; one before 1972; twice; with an
-- instant at fault before it
pub offsets : map (λ (s : String). told_in (letters s))
    ("instant 2017-08-21 18:00:00 ET\ntai-utc 37 # since 2017" ∷ "tai-utc\t99\ninstant 1972-01-01 00:00:00 UT" ∷ "tai-utc 09" ∷ "tai-utc 100\n" ∷ "tai-utc 37.0"
    ∷ "x0 1\ntai-utc 10" ∷ "instant 1971-12-31 18:00:00 ET\ntai-utc 10" ∷ "tai-utc 37\ninstant 2017-08-21 18:00:00 ET\ntai-utc 37\n"
    ∷ "instant\ntai-utc" ∷ "tai-utc\ninstant" ∷ [])
    ≡ Ok (Some (record { year = 2017; month = 8; day = 21; hundredths = 6480000; scale = S.Ephemeris; offset = 37 }))
    ∷ Ok (Some (record { year = 1972; month = 1; day = 1; hundredths = 0; scale = S.Universal; offset = 99 })) ∷ Err (1, Wrong.NotSeconds)
    ∷ Err (1, Wrong.NotSeconds) ∷ Err (1, Wrong.NotSeconds) ∷ Err (2, Wrong.NeedsInstant) ∷ Err (2, Wrong.NeedsInstant) ∷ Err (3, Wrong.OffsetTwice)
    ∷ Err (1, Wrong.Malformed) ∷ Err (1, Wrong.NotSeconds) ∷ []
unfolding told_in over_lines instant_of seconds_in timed scaled in_scale instant_at hundredths_of is_time time_form is_date is_day days_in is_leap has_form two_at run_of lines_of named
offsets = refl
