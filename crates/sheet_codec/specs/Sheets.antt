-- A sheet: records one after the other, up to the end record.
use Rattle.std.specs.Prelude.{ℕ, zero, suc, ◌+◌, ◌/◌, List, [], ◌∷◌, ◌++◌, Bool, cond, leb, ltb, length, drop, Result, Err, Ok}
use Rattle.sheet_types.specs.declared.refusals.Refusal.{Refusal}
use Rattle.sheet_types.specs.Refusals.{refusal}
use Rattle.sheet_format.specs.declared.kinds.Entry.{Entry}
use Rattle.sheet_format.specs.declared.kinds.Progress.{Progress}
use Rattle.sheet_format.specs.Kinds.{is_end}
use Rattle.sheet_format.specs.RecordEntries.{numbers_of}
use Rattle.sheet_rules.specs.Rules.{start, after_of, order_of, fields_of, of_fields, of_order}
use Rattle.sheet_format.specs.Records.{record_at}

-- what a list of bytes, or of numbers, is as a sheet: its entries, head and end among them, and its length in bytes;
-- or the refusal
pub data Sheet : Type 0 where
  sheet : List Entry → ℕ → Sheet
  refused : Refusal → Sheet

abbrev pub more : Entry → Sheet → Sheet
more e (sheet es n) = sheet (e ∷ es) n
more e (refused r) = refused r

-- "in it 5, 6, 8, 7": what was read or handed over at a place is refused (5, 6), or judged by the rules: of order (8),
-- then of fields (7)
abbrev pub judged : Progress → ℕ → Result (Entry × ℕ) Refusal → Result (Entry × ℕ) Refusal
judged p at (Err r) = Err r
judged p at (Ok (e, next)) = of_order at (of_fields at (Ok (e, next)) (fields_of p e)) (order_of p e)

-- the end record ends the sheet; another is followed by what comes after it
abbrev pub onward : Result (Entry × ℕ) Refusal → (Entry → ℕ → Sheet) → Sheet
onward (Err r) go = refused r
onward (Ok (e, next)) go = cond (is_end e.kind) (sheet (e ∷ []) next) (more e (go e next))

-- "Sheets: first faulty record": the sheet from the i-th record on, which stands at byte `at`; `given` gives each, and
-- it is judged by what came before it. `fuel` bounds the records to come.
unfoldable pub sheet_from : (ℕ → ℕ → Result (Entry × ℕ) Refusal) → ℕ → Progress → ℕ → ℕ → Sheet
sheet_from given zero p i at = refused (refusal 6 at)
sheet_from given (suc fuel) p i at = onward (judged p at (given i at)) (λ e next. sheet_from given fuel (after_of p e) (i + 1) next)

-- the i-th record of some bytes, which stands at byte `at`
abbrev pub stored_at : List ℕ → ℕ → ℕ → Result (Entry × ℕ) Refusal
stored_at s i at = record_at s at

-- the sheet that some bytes begin with, whatever stands after it. A record has a byte at least, so there are no more
-- records than bytes.
unfoldable pub read_sheet : List ℕ → Sheet
read_sheet s = sheet_from (stored_at s) (suc (length s)) start 0 0

-- "9 | bytes after the end record | first of them": `over` says of the entries' number and the length whether anything
-- follows
abbrev pub alone : (ℕ → ℕ → Bool) → Sheet → Sheet
alone over (refused r) = refused r
alone over (sheet es n) = cond (over (length es) n) (refused (refusal 9 n)) (sheet es n)

-- the sheet that some bytes are
unfoldable pub read_whole : List ℕ → Sheet
read_whole s = alone (λ k n. ltb n (length s)) (read_sheet s)

-- how many entries and how many bytes
abbrev pub extent_of : Sheet → Result (ℕ × ℕ) Refusal
extent_of (sheet es n) = Ok (length es, n)
extent_of (refused r) = Err r

-- "Where a reader is lent room for entries and there are more, it gives 4 with their number, after all others". A
-- buffer of k numbers holds k / 5 entries.
abbrev pub holds : List Entry → ℕ → Bool
holds es k = leb (length es) (k / 5)

abbrev pub read_into : ℕ → Sheet → Result (ℕ × ℕ) Refusal
read_into k (refused r) = Err r
read_into k (sheet es n) = cond (holds es k) (Ok (length es, n)) (Err (refusal 4 (length es)))

-- "After any refusal the buffer holds its old bytes; after success the bytes past the sheet do": so too a buffer and
-- its numbers
abbrev pub room_after : Sheet → List ℕ → List ℕ
room_after (refused r) room = room
room_after (sheet es n) room = cond (holds es (length room)) (numbers_of es ++ drop (length (numbers_of es)) room) room
