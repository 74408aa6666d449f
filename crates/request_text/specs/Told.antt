-- What the lines of a typed text say of the instant and of TAI less UTC.
use Rattle.std.specs.Prelude.{ℕ, ◌+◌, cond, List, [], ◌∷◌, eqb, ltb, length, drop, Option, Result, None, Err, Some, Ok, Option}
use Rattle.request_text.specs.declared.instants.Wrong.{Wrong}
use Rattle.calendar.specs.declared.Instant.{Instant}
use Rattle.request_format.specs.Rows.{letters}
use Rattle.tokens.specs.Text.{lines_of}
use Rattle.request_text.specs.Lines.{said, names_instant, names_offset}
use Rattle.request_text.specs.Instants.{instant_of, seconds_in}

-- what is told of the lines from line i on, by what each of them adds to what was told before it
unfoldable pub over_lines : (A : Type 0) → (ℕ → List ℕ → A → A) → List (List ℕ) → ℕ → A → A
over_lines A step [] i told = told
over_lines A step (l ∷ ls) i told = over_lines A step ls (i + 1) (step i l told)

-- what stands after the name: `instant` and `tai-utc` have as many letters
abbrev pub after_name : List ℕ → List ℕ
after_name l = drop (length (letters "instant")) (said l)

-- ---- the instant

-- line i gives an instant: "instant is not a date and time" for anything else, "instant is given twice" after one that
-- was given
abbrev pub taken : ℕ → Option Instant → Option Instant → Result (Option Instant) (ℕ × Wrong)
taken i None old = Err (i, Wrong.Malformed)
taken i (Some x) None = Ok (Some x)
taken i (Some x) (Some y) = Err (i, Wrong.Twice)

-- the parse result after line i, from the one before it: "The first invalid line is reported"
abbrev pub told_after : ℕ → List ℕ → Result (Option Instant) (ℕ × Wrong) → Result (Option Instant) (ℕ × Wrong)
told_after i l (Err (j, wrong)) = Err (j, wrong)
told_after i l (Ok old) = cond (names_instant l) (taken i (instant_of (after_name l)) old) (Ok old)

abbrev pub instant_in : List ℕ → Result (Option Instant) (ℕ × Wrong)
instant_in text = over_lines (Result (Option Instant) (ℕ × Wrong)) told_after (lines_of text) 1 (Ok None)

-- ---- TAI less UTC

-- line i gives some seconds, 0 for words that are none: "tai-utc is not a whole number of seconds from 10 to 99", "tai-utc
-- is given twice"
abbrev pub offset_taken : ℕ → ℕ → Result (Option (ℕ × ℕ)) (ℕ × Wrong) → Result (Option (ℕ × ℕ)) (ℕ × Wrong)
offset_taken i n (Ok None) = cond (eqb n 0) (Err (i, Wrong.NotSeconds)) (Ok (Some (i, n)))
offset_taken i n (Ok (Some (j, m))) = cond (eqb n 0) (Err (i, Wrong.NotSeconds)) (Err (i, Wrong.OffsetTwice))
offset_taken i n (Err (j, wrong)) = Err (j, wrong)

abbrev pub offset_after : ℕ → List ℕ → Result (Option (ℕ × ℕ)) (ℕ × Wrong) → Result (Option (ℕ × ℕ)) (ℕ × Wrong)
offset_after i l old = cond (names_offset l) (offset_taken i (seconds_in (after_name l)) old) old

abbrev pub offset_in : List ℕ → Result (Option (ℕ × ℕ)) (ℕ × Wrong)
offset_in text = over_lines (Result (Option (ℕ × ℕ)) (ℕ × Wrong)) offset_after (lines_of text) 1 (Ok None)

-- ---- both

-- "tai-utc needs an instant in 1972 or later": line i gives n seconds
abbrev pub used_with : ℕ → ℕ → Option Instant → Result (Option Instant) (ℕ × Wrong)
used_with i n None = Err (i, Wrong.NeedsInstant)
used_with i n (Some x) =
    cond (ltb x.year 1972) (Err (i, Wrong.NeedsInstant))
    (Ok (Some (record { year = x.year; month = x.month; day = x.day; hundredths = x.hundredths; scale = x.scale; offset = n })))

-- "The first invalid line is reported"
abbrev pub with_offset : Result (Option Instant) (ℕ × Wrong) → Result (Option (ℕ × ℕ)) (ℕ × Wrong) → Result (Option Instant) (ℕ × Wrong)
with_offset told (Ok None) = told
with_offset (Ok x) (Ok (Some (i, n))) = used_with i n x
with_offset (Err (j, wrong)) (Ok (Some (i, n))) = Err (j, wrong)
with_offset (Ok x) (Err (i, wrong)) = Err (i, wrong)
with_offset (Err (j, other)) (Err (i, wrong)) = cond (ltb i j) (Err (i, wrong)) (Err (j, other))

-- a text
unfoldable pub told_in : List ℕ → Result (Option Instant) (ℕ × Wrong)
told_in text = with_offset (instant_in text) (offset_in text)
