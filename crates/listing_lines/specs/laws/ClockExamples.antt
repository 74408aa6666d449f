-- The listing of docs/CLOCK.md, and times on other days and of elements by universal time: each is computed.
use Rattle.std.specs.Prelude.{ℕ, ◌≡◌, refl, [], ◌∷◌, ◌++◌, pos, negsuc, Some, None}
use Rattle.sheet_types.specs.declared.phases.Phase.TheVariants.{Penumbra, Central, Star}
use Rattle.sheet_format.specs.Entries.{head, enter, leave, graze, opened, closest, share, end}
use Rattle.sheet_format.specs.declared.kinds.Entry.{Entry}
use Rattle.listing_lines.specs.declared.clock.Altitude.{Altitude}
use Rattle.listing_lines.specs.declared.clock.Altitude.TheVariants as A
use Rattle.calendar.specs.declared.Scale.{Scale}
use Rattle.calendar.specs.declared.Scale.TheVariants.{Ephemeris, Universal}
use Rattle.calendar.specs.declared.Instant.{Instant}
use Rattle.decimal_text.specs.Decimals.{digits_of, decimal, signed}
use Rattle.decimal_text.specs.Texts.{letters}
use Rattle.decimal_text.specs.Patterns.{piece, filled}
use Rattle.listing_lines.specs.Lines.{text_of, end_for}
use Rattle.listing_lines.specs.Times.{seconds_text, of_day_text, day_text, time_text}
use Rattle.listing_lines.specs.Clock.{own, time_in, known, instant_text, scale_text, scales_text, behind, timed_text, tenths_text, altitude_text, timed_line, timed_lines}

abbrev instant : ℕ → ℕ → ℕ → ℕ → Scale → ℕ → Instant
instant y m d n s a = record { year = y; month = m; day = d; hundredths = n; scale = s; offset = a }

-- no altitude
abbrev dark : Entry → Altitude
dark e = A.Nothing

pub hopkinsville : timed_lines (Some (instant 2017 8 21 6480000 Ephemeris 0)) (pos 6880) dark (
    head 217 5400 19800 16 ∷ enter Penumbra 7060 7061 2928 ∷ leave Penumbra 17571 17572 1144
    ∷ enter Central 12350 12351 2960 ∷ leave Central 12510 12511 1119 ∷ closest 12430 1030585 ∷ share 1000000 ∷ end ∷ []
    )
    ≡ letters "station 217 from -5400 to 9000\ninstant 2017-08-21 18:00:00.00 ET\nenter penumbra -3740 -3739 2928 ET 16:57:40.0 16:57:41.0 UT 16:56:31.2 16:56:32.2\nleave penumbra 6771 6772 1144 ET 19:52:51.0 19:52:52.0 UT 19:51:42.2 19:51:43.2\nenter central 1550 1551 2960 ET 18:25:50.0 18:25:51.0 UT 18:24:41.2 18:24:42.2\nleave central 1710 1711 1119 ET 18:28:30.0 18:28:31.0 UT 18:27:21.2 18:27:22.2\nclosest 1630 1030585 ET 18:27:10.0 UT 18:26:01.2\nshare 1000000\n"
unfolding timed_lines timed_line timed_text altitude_text behind scales_text scale_text instant_text time_text day_text of_day_text seconds_text known time_in own text_of end_for filled piece signed decimal digits_of
hopkinsville = refl

-- before and after the instant's day; hundredths outward, and to the nearest tenth with halves up
pub other_days : timed_lines (Some (instant 1999 12 31 8639905 Universal 0)) (negsuc 54) dark (
    graze Star 10800 10801 ∷ opened Star 0 1 ∷ closest 10800 0 ∷ []
    )
    ≡ letters "graze star 0 1 ET 23:59:58.5 23:59:59.5 UT 23:59:59.0 00:00:00.1+1d\nopen star -10800 -10799 ET 20:59:58.5 20:59:59.5 UT 20:59:59.0 21:00:00.1\nclosest 0 0 ET 23:59:58.5 UT 23:59:59.1\n"
unfolding timed_lines timed_line timed_text altitude_text behind scales_text scale_text instant_text time_text day_text of_day_text seconds_text known time_in own text_of end_for filled piece signed decimal digits_of
other_days = refl

-- "With a ΔT of 0 only the instant's own scale is printed."
pub own_scale : timed_lines (Some (instant 1954 6 30 0 Universal 0)) (pos 0) dark (enter Penumbra 10799 10801 2700 ∷ [])
    ≡ letters "enter penumbra -1 1 2700 UT 23:59:59.0-1d 00:00:01.0\n"
unfolding timed_lines timed_line timed_text altitude_text behind scales_text scale_text instant_text time_text day_text of_day_text seconds_text known time_in own text_of end_for filled piece signed decimal digits_of
own_scale = refl

-- with no clock
pub none : timed_lines None (pos 6880) dark (head 7 4800 16800 16 ∷ enter Penumbra 5399 5401 2700 ∷ [])
    ≡ letters "station 7 from -6000 to 6000\nenter penumbra -5401 -5399 2700\n"
unfolding timed_lines timed_line timed_text altitude_text text_of end_for filled piece signed decimal digits_of
none = refl

-- "UTC is printed where A was typed and the ephemeris time is known": 32.184 s and 37 s before 18:00:00 lies
-- 17:58:50.816, of which the tenths are outward and to the nearest
pub with_utc : timed_lines (Some (instant 2017 8 21 6480000 Ephemeris 37)) (pos 6880) dark (
    enter Penumbra 10800 10801 2928 ∷ closest 10800 1030585 ∷ []
    )
    ≡ letters "enter penumbra 0 1 2928 ET 18:00:00.0 18:00:01.0 UT 17:58:51.2 17:58:52.2 UTC 17:58:50.8 17:58:51.9\nclosest 0 1030585 ET 18:00:00.0 UT 17:58:51.2 UTC 17:58:50.8\n"
unfolding timed_lines timed_line timed_text altitude_text behind scales_text scale_text instant_text time_text day_text of_day_text seconds_text known time_in own text_of end_for filled piece signed decimal digits_of
with_utc = refl

pub utc_of_universal : timed_lines (Some (instant 2017 8 21 6480000 Universal 37)) (pos 6880) dark (closest 10800 1 ∷ [])
    ≡ letters "closest 0 1 ET 18:01:08.8 UT 18:00:00.0 UTC 17:59:59.6\n"
unfolding timed_lines timed_line timed_text altitude_text behind scales_text scale_text instant_text time_text day_text of_day_text seconds_text known time_in own text_of end_for filled piece signed decimal digits_of
utc_of_universal = refl

pub no_utc : timed_lines (Some (instant 2017 8 21 6480000 Universal 37)) (pos 0) dark (closest 10800 1 ∷ [])
    ≡ letters "closest 0 1 UT 18:00:00.0\n"
unfolding timed_lines timed_line timed_text altitude_text behind scales_text scale_text instant_text time_text day_text of_day_text seconds_text known time_in own text_of end_for filled piece signed decimal digits_of
no_utc = refl

-- "the altitude in tenths of a degree, as `alt 45.3`, and, where it is below 0, ` below the horizon`"
pub altitudes : altitude_text (A.Above 453) ++ altitude_text (A.Above 0) ++ altitude_text (A.Below 3) ++ altitude_text (A.Below 900)
    ≡ letters " alt 45.3 alt 0.0 alt -0.3 below the horizon alt -90.0 below the horizon"
unfolding altitude_text tenths_text decimal digits_of
altitudes = refl

-- it stands behind the times
pub behind-times : timed_lines (Some (instant 2017 8 21 6480000 Ephemeris 0)) (pos 0) (λ e. A.Below 12) (closest 10800 1 ∷ [])
    ≡ letters "closest 0 1 ET 18:00:00.0 alt -1.2 below the horizon\n"
unfolding timed_lines timed_line timed_text altitude_text tenths_text behind scales_text scale_text instant_text time_text day_text of_day_text seconds_text known time_in own text_of end_for filled piece signed decimal digits_of
behind-times = refl
