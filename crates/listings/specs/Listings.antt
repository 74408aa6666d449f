-- The listing of a sheet.
use Rattle.std.specs.Prelude.{ℕ, List, ◌++◌, ℤ, Option}
use Rattle.requests.specs.declared.Occultation.{Occultation}
use Rattle.calendar.specs.declared.Instant.{Instant}
use Rattle.sheet_codec.specs.Sheets.{Sheet, sheet, refused, read_whole}
use Rattle.listing_lines.specs.Clock.{timed_lines}
use Rattle.listing_lines.specs.Lines.{lines_of, refusal_line}
use Rattle.listings.specs.Answers.{Told, text, withheld}
use Rattle.listings.specs.declared.sky.View.TheVariants as Seen
use Rattle.listings.specs.Sky.{altitude_for, view_of, notes_for}

-- the lines of its entries; or the refusal
abbrev pub listing_of : Sheet → Told
listing_of (sheet es n) = text (lines_of es)
listing_of (refused r) = withheld r

-- the listing of the sheet that some bytes are
unfoldable pub told : List ℕ → Told
told bytes = listing_of (read_whole bytes)

-- docs/CLOCK.md: with clock times "it is the sheet's own listing", its lines with times by the reference and the
-- station's ΔT and with the altitude; then the notes
abbrev pub timed_of : Option Instant → ℤ → Option Occultation → Sheet → Told
timed_of k d y (sheet es n) = text (timed_lines k d (altitude_for y) es ++ notes_for y (view_of y Seen.Nothing es))
timed_of k d y (refused r) = withheld r

unfoldable pub timed : Option Instant → ℤ → Option Occultation → List ℕ → Told
timed k d y bytes = timed_of k d y (read_whole bytes)

-- "A refusal prints `refused`, number, place."
abbrev pub printed : Told → List ℕ
printed (text t) = t
printed (withheld r) = refusal_line r.number r.place
