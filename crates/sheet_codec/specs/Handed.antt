-- Entries handed over to be written: five numbers each, and the sheet that they make.
use Rattle.std.specs.Prelude.{ℕ, suc, ◌+◌, ◌*◌, List, ◌++◌, cond, leb, ltb, length, get_or, drop, Option, Result, None, Err, Some, Ok}
use Rattle.sheet_types.specs.declared.refusals.Refusal.{Refusal}
use Rattle.sheet_types.specs.Refusals.{refusal}
use Rattle.sheet_format.specs.declared.kinds.Kind.{Kind}
use Rattle.sheet_format.specs.declared.kinds.Entry.{Entry}
use Rattle.sheet_format.specs.Kinds.{kind_for, size_of}
use Rattle.sheet_format.specs.RecordEntries.{bytes_of}
use Rattle.sheet_rules.specs.Rules.{start}
use Rattle.sheet_codec.specs.Sheets.{Sheet, sheet, refused, sheet_from, alone}

-- the entry of that kind whose fields are the i-th five numbers of a list, after the first
abbrev pub numbered : List ℕ → ℕ → Kind → Entry
numbered l i k = record { kind = k; a = get_or l (i * 5 + 1) 0; b = get_or l (i * 5 + 2) 0; c = get_or l (i * 5 + 3) 0; d = get_or l (i * 5 + 4) 0 }

-- "5 | kind not in the table | first byte of that record"; the place after the record is that of the bytes it would
-- have
abbrev pub of_named : List ℕ → ℕ → ℕ → Option Kind → Result (Entry × ℕ) Refusal
of_named l i at None = Err (refusal 5 at)
of_named l i at (Some k) = Ok (numbered l i k, at + size_of k)

-- "6 (the list stops before its end entry) .. at the place their record has or would have": the i-th entry of a list,
-- whose record stands at byte `at`; the last one to four numbers are an entry cut short
unfoldable pub handed_at : List ℕ → ℕ → ℕ → Result (Entry × ℕ) Refusal
handed_at l i at = cond (leb (i * 5 + 5) (length l)) (of_named l i at (kind_for (get_or l (i * 5) 0))) (Err (refusal 6 at))

-- "Entries handed over to be written meet 5, 8, 7, 6": the sheet of the entries that a list begins with, up to the
-- first end entry
unfoldable pub list_sheet : List ℕ → Sheet
list_sheet l = sheet_from (handed_at l) (suc (length l)) start 0 0

-- "and 9 as in a sheet": entries after the end entry
unfoldable pub list_whole : List ℕ → Sheet
list_whole l = alone (λ k n. ltb (k * 5) (length l)) (list_sheet l)

-- "then 4": "4 | sheet longer than the buffer | the length it needs"
abbrev pub write_into : ℕ → Sheet → Result (ℕ × ℕ) Refusal
write_into k (refused r) = Err r
write_into k (sheet es n) = cond (leb n k) (Ok (length es, n)) (Err (refusal 4 n))

-- "After any refusal the buffer holds its old bytes; after success the bytes past the sheet do"
abbrev pub buffer_after_list : Sheet → List ℕ → List ℕ
buffer_after_list (refused r) buf = buf
buffer_after_list (sheet es n) buf = cond (leb n (length buf)) (bytes_of es ++ drop n buf) buf
