-- Seconds of a sheet as times of day: docs/CLOCK.md, whose sentences are quoted. How a time is printed: times_of_day,
-- Times. `Outward` says what they come to: a contact lies between its two printed times.
use Rattle.std.specs.Prelude.{ℕ, ◌/◌, ◌%◌, Bool, true, cond, ◌&&◌, List, [], ◌∷◌, ◌++◌, leb, ℤ, pos, nat_abs, ◌+ℤ◌, ◌-ℤ◌, ◌*ℤ◌, Option, None, Some}
use Rattle.rounding.specs.Near.{floor_z}
use Rattle.sheet_format.specs.declared.kinds.Kind.{Kind}
use Rattle.sheet_format.specs.declared.kinds.Kind.TheVariants.{Head, Enter, Leave, Graze, Open, Closest, Share, End}
use Rattle.sheet_format.specs.declared.kinds.Entry.{Entry}
use Rattle.sheet_format.specs.StoredSeconds.{second_of}
use Rattle.calendar.specs.declared.Scale.{Scale}
use Rattle.calendar.specs.declared.Scale.TheVariants.{Ephemeris, Universal}
use Rattle.listing_lines.specs.declared.clock.TimeScale.{TimeScale}
use Rattle.listing_lines.specs.declared.clock.TimeScale.TheVariants.{ET, UT, UTC}
use Rattle.calendar.specs.declared.Instant.{Instant}
use Rattle.decimal_text.specs.Decimals.{digit, decimal}
use Rattle.decimal_text.specs.Texts.{letters}
use Rattle.listing_lines.specs.Lines.{text_of, end_for}
use Rattle.listing_lines.specs.Times.{two, seconds_text, time_text}
use Rattle.listing_lines.specs.declared.clock.Seconds.{Seconds}
use Rattle.listing_lines.specs.declared.clock.Seconds.TheVariants.{Moment, Contact}
use Rattle.listing_lines.specs.declared.clock.Altitude.{Altitude}
use Rattle.listing_lines.specs.declared.clock.Altitude.TheVariants as A
use Rattle.listing_lines.specs.declared.clock.Shown.{Shown}
use Rattle.listing_lines.specs.declared.clock.Shown.TheVariants.{Nothing, InstantLine, Times}

-- ---- from a second to times of day

-- "I be the instant's time of day, 0 to 8,639,999": less whole days, where it is more
abbrev pub of_day : Instant → ℤ
of_day i = pos (i.hundredths % 8640000)

-- n = 10 I + 1000τ
unfoldable pub own : Instant → ℤ → ℤ
own i τ = pos 10 *ℤ of_day i +ℤ pos 1000 *ℤ τ

-- | Scale typed | Ephemeris time of second τ | Universal time of second τ | UTC of second τ |
-- | ET | n | n - 10 D | n - 32,184 - 1000 A |
-- | UT | n + 10 D | n | n + 10 D - 32,184 - 1000 A |
-- of the scale typed, the scale shown, D, A and n
abbrev pub in_scale : Scale → TimeScale → ℤ → ℤ → ℤ → ℤ
in_scale Ephemeris ET d a n = n
in_scale Ephemeris UT d a n = n -ℤ pos 10 *ℤ d
in_scale Ephemeris UTC d a n = n -ℤ pos 32184 -ℤ pos 1000 *ℤ a
in_scale Universal ET d a n = n +ℤ pos 10 *ℤ d
in_scale Universal UT d a n = n
in_scale Universal UTC d a n = n +ℤ pos 10 *ℤ d -ℤ pos 32184 -ℤ pos 1000 *ℤ a

-- "A be TAI less UTC in seconds, at most 99, and 0 where it was not typed": less whole hundreds, where it is more
abbrev pub offset_of : Instant → ℕ
offset_of i = i.offset % 100

-- the thousandths of second τ in a scale
unfoldable pub time_in : TimeScale → Instant → ℤ → ℤ → ℤ
time_in shown i d τ = in_scale i.scale shown d (pos (offset_of i)) (own i τ)

-- "With a ΔT of 0 only the instant's own scale is printed", and UTC where that is ET. "UTC is printed where A was
-- typed and the ephemeris time is known."
abbrev pub shows : Scale → TimeScale → ℤ → ℕ → Bool
shows Ephemeris ET d a = true
shows Ephemeris UT d a = leb 1 (nat_abs d)
shows Ephemeris UTC d a = leb 1 a
shows Universal ET d a = leb 1 (nat_abs d)
shows Universal UT d a = true
shows Universal UTC d a = leb 1 (nat_abs d) && leb 1 a

-- "ΔT is at most 200 s": one that no request has counts as 0
unfoldable pub known : ℤ → ℤ
known d = cond (leb (nat_abs d) 20000) d (pos 0)

-- "Tenths of a second, outward. Of the two seconds of a contact the earlier is printed at the floor of its thousandths
-- over 100, the later at the ceiling", which of whole numbers is the floor of 99 more. "The closest second .. is
-- printed to the nearest tenth, halves up, the floor of its thousandths plus 50 over 100."
abbrev pub earlier : ℤ → ℤ
earlier n = floor_z n (pos 100)

abbrev pub later : ℤ → ℤ
later n = floor_z (n +ℤ pos 99) (pos 100)

abbrev pub nearest : ℤ → ℤ
nearest n = floor_z (n +ℤ pos 50) (pos 100)

-- ---- names and dates

abbrev pub typed_name : Scale → List ℕ
typed_name Ephemeris = letters "ET"
typed_name Universal = letters "UT"

abbrev pub name_of : TimeScale → List ℕ
name_of ET = letters "ET"
name_of UT = letters "UT"
name_of UTC = letters "UTC"

-- "`YYYY-MM-DD HH:MM:SS.FF SCALE`, always with two decimals"
abbrev pub date_text : Instant → List ℕ
date_text i = two (i.year / 100) ++ two i.year ++ letters "-" ++ two i.month ++ letters "-" ++ two i.day

unfoldable pub instant_text : Instant → List ℕ
instant_text i =
    let n = i.hundredths % 8640000 in
    date_text i ++ letters " " ++ seconds_text (n / 100) ++ letters "." ++ two n ++ letters " " ++ typed_name i.scale

-- ---- the listing with clock times

-- the times of stored seconds in a scale, each after a blank
abbrev pub times_in : TimeScale → Instant → ℤ → Seconds → List ℕ
times_in shown i d (Moment s) = letters " " ++ time_text (nearest (time_in shown i d (second_of s)))
times_in shown i d (Contact from to) =
    letters " " ++ time_text (earlier (time_in shown i d (second_of from))) ++ letters " " ++ time_text (later (time_in shown i d (second_of to)))

-- the scale's name and the times, where it is shown
unfoldable pub scale_text : TimeScale → Instant → ℤ → Seconds → List ℕ
scale_text shown i d s = cond (shows i.scale shown d (offset_of i)) (letters " " ++ name_of shown ++ times_in shown i d s) []

-- "followed by ` ET ` and its times in ephemeris time, by ` UT ` and those in universal time, then by ` UTC ` and those
-- in UTC"
unfoldable pub scales_text : Instant → ℤ → Seconds → List ℕ
scales_text i d s = scale_text ET i d s ++ scale_text UT i d s ++ scale_text UTC i d s

-- "two times for an entry with from and to, one for the closest second, none for a share"; "After the head line stands
-- `instant ..`"
abbrev pub shown_for : Kind → ℕ → ℕ → Shown
shown_for Head a b = InstantLine
shown_for (Enter φ) a b = Times (Contact a b)
shown_for (Leave φ) a b = Times (Contact a b)
shown_for (Graze φ) a b = Times (Contact a b)
shown_for (Open φ) a b = Times (Contact a b)
shown_for Closest a b = Times (Moment a)
shown_for Share a b = Nothing
shown_for End a b = Nothing

-- what follows an entry's text
abbrev pub shown_text : Instant → ℤ → Shown → List ℕ
shown_text i d Nothing = []
shown_text i d InstantLine = letters "\ninstant " ++ instant_text i
shown_text i d (Times s) = scales_text i d s

unfoldable pub behind : Instant → ℤ → Entry → List ℕ
behind i d e = shown_text i d (shown_for e.kind e.a e.b)

-- an entry's text; with an instant, what follows it
unfoldable pub timed_text : Option Instant → ℤ → Entry → List ℕ
timed_text None d e = text_of e
timed_text (Some i) d e = text_of e ++ behind i (known d) e

-- ---- the altitude

-- "in tenths of a degree, as `alt 45.3`": n tenths
unfoldable pub tenths_text : ℕ → List ℕ
tenths_text n = decimal (n / 10) ++ letters "." ++ (digit (n % 10) ∷ [])

-- "and, where it is below 0, ` below the horizon`"
unfoldable pub altitude_text : Altitude → List ℕ
altitude_text A.Nothing = []
altitude_text (A.Above n) = letters " alt " ++ tenths_text n
altitude_text (A.Below n) = letters " alt -" ++ tenths_text n ++ letters " below the horizon"

-- ---- the lines

-- an entry's line, with an altitude
unfoldable pub timed_line : Option Instant → ℤ → Altitude → Entry → List ℕ
timed_line k d x e = timed_text k d e ++ altitude_text x ++ end_for e.kind

-- those of some entries, with the altitude x of each
unfoldable pub timed_lines : Option Instant → ℤ → (Entry → Altitude) → List Entry → List ℕ
timed_lines k d x [] = []
timed_lines k d x (e ∷ es) = timed_line k d (x e) e ++ timed_lines k d x es
