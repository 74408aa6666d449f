-- The reference instant as six numbers: its scale, year, month, day, hundredths of a second from 0h, and TAI less UTC.
use Rattle.std.specs.Prelude.{ℕ, Bool, cond, ◌&&◌, ◌||◌, leb, eqb, Result, Ok, None, Some, Err, Option}
use Rattle.calendar.specs.declared.Instant.{Instant}
use Rattle.calendar.specs.declared.Scale.{Scale}
use Rattle.calendar.specs.declared.Scale.TheVariants as S
use Rattle.calendar.specs.Calendar.{is_day}

-- TAI less UTC: 0 where it is not known, or 10 to 99 seconds; "tai-utc needs an instant in 1972 or later"
unfoldable pub is_offset : (year offset : ℕ) → Bool
is_offset y o = eqb o 0 || (leb 10 o && leb o 99 && leb 1972 y)

-- 1 ephemeris time, 2 universal time
unfoldable pub scale_of : ℕ → Scale
scale_of s = cond (eqb s 1) S.Ephemeris S.Universal

-- scale 0: no instant; else the place of the first number that is wrong, of a date that of its year; or the instant
unfoldable pub reference_of : (scale year month day hundredths offset : ℕ) → Result (Option Instant) ℕ
reference_of s y m d h o =
    cond (eqb s 0) (Ok None)
    (cond (leb s 2)
    (cond (is_day y m d && leb y 9999)
    (cond (leb h 8639999)
    (cond (is_offset y o)
    (Ok (Some (record { year = y; month = m; day = d; hundredths = h; scale = scale_of s; offset = o })))
    (Err 5)) (Err 4)) (Err 1)) (Err 0))
