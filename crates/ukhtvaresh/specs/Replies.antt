-- What a caller from outside gets: the number of the refusal, 0 for none; and beside it the length or the count, or
-- the refusal's place.
use Rattle.std.specs.Prelude.{List, ℕ, length, Result, Ok, Err}
use Rattle.sheet_types.specs.declared.refusals.Refusal.{Refusal}
use Rattle.sheet_codec.specs.Sheets.{read_sheet, read_whole, extent_of, read_into}
use Rattle.sheet_codec.specs.Handed.{list_whole, write_into}
use Rattle.ukhtvaresh.specs.declared.replies.Reply.{Reply}

-- the table of refusals: "No." and "Place"
abbrev pub refused_reply : Refusal → Reply
refused_reply r = record { number = r.number; value = r.place }

-- ---- a request's sheet: how many bytes
abbrev pub sheet_reply : Result ℕ Refusal → Reply
sheet_reply (Ok n) = record { number = 0; value = n }
sheet_reply (Err r) = refused_reply r

-- ---- a sheet read into a buffer: how many entries
-- "Where a reader is lent room for entries and there are more, it gives 4 with their number"
abbrev pub read_given : List ℕ → List ℕ → Result (ℕ × ℕ) Refusal
read_given sheet room = read_into (length room) (read_whole sheet)

abbrev pub read_reply : Result (ℕ × ℕ) Refusal → Reply
read_reply (Ok (entries, n)) = record { number = 0; value = entries }
read_reply (Err r) = refused_reply r

-- ---- entries written into a buffer: how many bytes
-- "Entries handed over to be written meet 5, 8, 7, 6 .. and 9 as in a sheet, .. then 4"
abbrev pub write_given : List ℕ → List ℕ → Result (ℕ × ℕ) Refusal
write_given entries buffer = write_into (length buffer) (list_whole entries)

abbrev pub write_reply : Result (ℕ × ℕ) Refusal → Reply
write_reply (Ok (entries, n)) = record { number = 0; value = n }
write_reply (Err r) = refused_reply r

-- ---- the sheet that some bytes begin with: how many bytes it has
-- "5, 6, 8, 7" with their places as in a sheet; what follows the sheet is not looked at
abbrev pub extent_given : List ℕ → Result (ℕ × ℕ) Refusal
extent_given bytes = extent_of (read_sheet bytes)
