-- What the parts of a reader, and of a writer, answer each other. Callers use `extent_of`, `room_after` and
-- `buffer_after_list`.
use Rattle.std.specs.Prelude.{ℕ, ◌+◌, ◌*◌, ◌≤◌, List, length, Result, Ok, Err}
use Rattle.std.proofs.lemmas.List.Edits.{sets}
use Rattle.sheet_types.specs.declared.refusals.Refusal.{Refusal}
use Rattle.sheet_types.specs.Refusals.{refusal}
use Rattle.sheet_format.specs.declared.kinds.Entry.{Entry}
use Rattle.sheet_format.specs.RecordEntries.{numbers_of, bytes_of}
use Rattle.sheet_codec.specs.Sheets.{Sheet, sheet, refused}

-- there is a sheet, and k numbers hold its entries
abbrev pub RoomFor : Sheet → ℕ → Type 0
RoomFor (refused r) k = ⊥
RoomFor (sheet es n) k = length es * 5 ≤ k

abbrev pub filled : Sheet → List ℕ → List ℕ
filled (refused r) room = room
filled (sheet es n) room = sets room 0 (numbers_of es)

-- there is a sheet, and k bytes hold it
abbrev pub BufferFor : Sheet → ℕ → Type 0
BufferFor (refused r) k = ⊥
BufferFor (sheet es n) k = n ≤ k

abbrev pub emitted : Sheet → List ℕ → List ℕ
emitted (refused r) buf = buf
emitted (sheet es n) buf = sets buf 0 (bytes_of es)

-- how many entries and bytes, after k entries
abbrev pub extent : ℕ → Sheet → Result (ℕ × ℕ) Refusal
extent k (sheet es n) = Ok (k + length es, n)
extent k (refused r) = Err r

-- a record's refusal, passed on
abbrev pub refused_of : Result (Entry × ℕ) Refusal → Result (ℕ × ℕ) Refusal
refused_of (Err r) = Err r
refused_of (Ok (e, n)) = Err (refusal 6 n)
