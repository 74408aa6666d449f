-- The round trip. A list of entries as numbers is accepted by the writer, and bytes are accepted by the reader:
--   written_then_read    entries that are accepted, written and read back are the same entries, number for number;
--   read_then_written    a sheet that reads well is written back to the same bytes;
--   accepted-is_written  the reader accepts exactly what the writer writes for some entries;
--   read_back            the bytes of well-formed entries are read back, whatever stands after them;
--   through_buffer, through_room   the first two, of the byte and number buffers that the functions leave.
-- The writer leaves `bytes_of es` at the buffer's start (`buffer_after_list`), the reader `numbers_of es` at the
-- start of its own (`room_after`).
use Rattle.std.specs.Prelude.{ℕ, suc, ◌+◌, ◌-◌, ◌*◌, ◌/◌, ◌≤◌, ◌≡◌, refl, List, [], ◌∷◌, ◌++◌, ◌↔◌, cond, length, take, drop}
use Rattle.std.proofs.Common.{sym, ap, ◌∙◌, append-nil, arith, zero-add, le-leb, take_at, length-append, drop_of_length-le}
use Rattle.sheet_format.specs.declared.kinds.Entry.{Entry}
use Rattle.sheet_format.specs.RecordEntries.{bytes_of, numbers_of}
use Rattle.sheet_format.specs.laws.KindLaws.{size_small}
use Rattle.sheet_format.specs.laws.EntryLaws.{length-bytes_cons, length-numbers}
use Rattle.sheet_rules.specs.Rules.{start}
use Rattle.big_endian.specs.Numbers.{Bytes}
use Rattle.sheet_rules.specs.laws.FieldFits.{start_small}
use Rattle.sheet_codec.specs.Sheets.{sheet, stored_at, read_sheet, read_whole, room_after}
use Rattle.sheet_codec.specs.Handed.{handed_at, list_sheet, list_whole, buffer_after_list}
use Rattle.sheet_codec.specs.laws.SheetLaws.{read-start, list_start, whole_inv, whole_is, list_inv, list-is}
use Rattle.sheet_codec.specs.laws.StandLaws.{Stand, from-well, well-from}
use Rattle.sheet_codec.specs.laws.StoredLaws.{stored_steady, bytes_stand, stand-bytes}
use Rattle.sheet_codec.specs.laws.HandedLaws.{handed_steady, numbers_stand, stand-numbers}
use Rattle.sheet_codec.specs.laws.WellFormed.{WellFormed}

-- the reader accepts some bytes as a sheet
abbrev pub Reads : List ℕ → Type 0
Reads s = (es : List Entry) × (n : ℕ) × (read_whole s ≡ sheet es n)

-- some bytes are what the writer writes for some list of numbers
abbrev pub IsWritten : List ℕ → Type 0
IsWritten s = (l : List ℕ) × (es : List Entry) × (n : ℕ) × (list_whole l ≡ sheet es n) × (s ≡ bytes_of es)

-- ---- well-formed entries are accepted

-- an entry has a byte at least
few : (es : List Entry) → length es ≤ length (bytes_of es)
few [] = omega arith
few (e ∷ es) = omega (arith, few es, length-bytes_cons e es, size_small e.kind)

pub read_back : (es : List Entry) → WellFormed start es → (rest : List ℕ) → read_sheet (bytes_of es ++ rest) ≡ sheet es (length (bytes_of es))
read_back es w rest =
    let s = bytes_of es ++ rest in
    read-start s
    ∙ from-well (stored_at s) es start w 0 0 (suc (length s - 0)) (bytes_stand es start w start_small [] rest 0)
    (omega (arith, few es, length-append (bytes_of es) rest))
    ∙ ap (sheet es) (zero-add (length (bytes_of es)))

pub read-whole_back : (es : List Entry) → WellFormed start es → read_whole (bytes_of es) ≡ sheet es (length (bytes_of es))
read-whole_back es w =
    whole_is (bytes_of es) es (length (bytes_of es)) (ap read_sheet (sym (append-nil (bytes_of es))) ∙ read_back es w []) (omega arith)

pub list_back : (es : List Entry) → WellFormed start es → list_whole (numbers_of es) ≡ sheet es (length (bytes_of es))
list_back es w =
    let l = numbers_of es ++ [] in
    list-is (numbers_of es) es (length (bytes_of es))
    (ap list_sheet (sym (append-nil (numbers_of es))) ∙ list_start l
    ∙ from-well (handed_at l) es start w 0 0 (suc (length l - 0)) (numbers_stand es start w [] [] 0 0 refl)
    (omega (arith, length-append (numbers_of es) [], length-numbers es))
    ∙ ap (sheet es) (zero-add (length (bytes_of es))))
    (omega (arith, length-numbers es))

-- ---- what is accepted is well formed

read_stands : (s : List ℕ) (es : List Entry) (n : ℕ) → read_sheet s ≡ sheet es n
    → WellFormed start es × Stand (stored_at s) 0 0 es × (n ≡ 0 + length (bytes_of es))
read_stands s es n q = well-from (stored_at s) (stored_steady s) (suc (length s - 0)) start 0 0 es n (sym (read-start s) ∙ q)

pub reads_well : (s : List ℕ) (es : List Entry) (n : ℕ) → read_whole s ≡ sheet es n → WellFormed start es
reads_well s es n q = (read_stands s es n (whole_inv s es n q).0).0

pub reads_length : (s : List ℕ) (es : List Entry) (n : ℕ) → read_sheet s ≡ sheet es n → n ≡ length (bytes_of es)
reads_length s es n q = (read_stands s es n q).2 ∙ zero-add (length (bytes_of es))

pub reads_bytes : (s : List ℕ) → Bytes s → (es : List Entry) (n : ℕ) → read_whole s ≡ sheet es n → s ≡ bytes_of es
reads_bytes s b es n q =
    let v = whole_inv s es n q in
    let r = read_stands s es n v.0 in
    stand-bytes s b es 0 0 r.1
    ∙ ap (λ x. bytes_of es ++ x) (drop_of_length-le s {i = 0 + length (bytes_of es)} (omega (arith, r.2, v.1))) ∙ append-nil (bytes_of es)

pub list_well : (l : List ℕ) (es : List Entry) (n : ℕ) → list_whole l ≡ sheet es n → WellFormed start es × (l ≡ numbers_of es) × (n ≡ length (bytes_of es))
list_well l es n q =
    let v = list_inv l es n q in
    let r = well-from (handed_at l) (handed_steady l) (suc (length l - 0)) start 0 0 es n (sym (list_start l) ∙ v.0) in (
      r.0,
      stand-numbers l es 0 0 r.1 ∙ ap (λ x. numbers_of es ++ x) (drop_of_length-le l {i = (0 + length es) * 5} (omega (arith, v.1)))
          ∙ append-nil (numbers_of es),
      r.2 ∙ zero-add (length (bytes_of es)),
    )

-- the sheet of a list is as long as the bytes of its entries
pub list_length : (l : List ℕ) (es : List Entry) (n : ℕ) → list_sheet l ≡ sheet es n → n ≡ length (bytes_of es)
list_length l es n q =
    (well-from (handed_at l) (handed_steady l) (suc (length l - 0)) start 0 0 es n (sym (list_start l) ∙ q)).2 ∙ zero-add (length (bytes_of es))

-- ---- the round trip

pub written_then_read : (l : List ℕ) (es : List Entry) (n : ℕ) → list_whole l ≡ sheet es n
    → (read_whole (bytes_of es) ≡ sheet es n) × (numbers_of es ≡ l)
written_then_read l es n q =
    let v = list_well l es n q in
    (read-whole_back es v.0 ∙ ap (sheet es) (sym v.2), sym v.1)

pub read_then_written : (s : List ℕ) → Bytes s → (es : List Entry) (n : ℕ) → read_whole s ≡ sheet es n
    → (list_whole (numbers_of es) ≡ sheet es n) × (bytes_of es ≡ s)
read_then_written s b es n q =
    (list_back es (reads_well s es n q) ∙ ap (sheet es) (sym (reads_length s es n (whole_inv s es n q).0)), sym (reads_bytes s b es n q))

pub accepted-is_written : (s : List ℕ) → Bytes s → Reads s ↔ IsWritten s
accepted-is_written s b = (
  (λ r. let t = read_then_written s b r.0 r.1 r.2 in (numbers_of r.0, r.0, r.1, t.0, sym t.1)),
  (λ w. let t = written_then_read w.0 w.1 w.2 w.3 in (w.1, w.2, ap read_whole w.4 ∙ t.0)),
)

-- ---- the same of the two buffers that the functions leave

-- entries written into a byte buffer and read from it into a number buffer: the first numbers are the entries handed
-- over, and the others are as they were
pub through_buffer : (l buf room : List ℕ) (es : List Entry) (n : ℕ) → list_whole l ≡ sheet es n → n ≤ length buf → length es ≤ length room / 5
    → room_after (read_whole (take n (buffer_after_list (list_whole l) buf))) room ≡ l ++ drop (length l) room
through_buffer l buf room es n q h k =
    let v = list_well l es n q in
    let t = written_then_read l es n q in
    let b : buffer_after_list (list_whole l) buf ≡ bytes_of es ++ drop n buf =
    ap (λ w. buffer_after_list w buf) q ∙ ap (λ b. cond b (bytes_of es ++ drop n buf) buf) (le-leb n (length buf) h) in
    let s : take n (buffer_after_list (list_whole l) buf) ≡ bytes_of es = ap (take n) b ∙ take_at (bytes_of es) (drop n buf) n (sym v.2) in
    ap (λ x. room_after (read_whole x) room) s ∙ ap (λ w. room_after w room) t.0
    ∙ ap (λ b. cond b (numbers_of es ++ drop (length (numbers_of es)) room) room) (le-leb (length es) (length room / 5) k)
    ∙ ap (λ x. x ++ drop (length x) room) t.1

-- a sheet read into a number buffer and written from it into a byte buffer: the first bytes are the sheet, and the
-- others are as they were
pub through_room : (s room buf : List ℕ) → Bytes s → (es : List Entry) (n : ℕ) → read_whole s ≡ sheet es n → length es ≤ length room / 5 → n ≤ length buf
    → buffer_after_list (list_whole (take (length es * 5) (room_after (read_whole s) room))) buf ≡ s ++ drop (length s) buf
through_room s room buf b es n q k h =
    let t = read_then_written s b es n q in
    let r : room_after (read_whole s) room ≡ numbers_of es ++ drop (length (numbers_of es)) room =
    ap (λ w. room_after w room) q
    ∙ ap (λ b. cond b (numbers_of es ++ drop (length (numbers_of es)) room) room) (le-leb (length es) (length room / 5) k) in
    let l : take (length es * 5) (room_after (read_whole s) room) ≡ numbers_of es =
    ap (take (length es * 5)) r ∙ take_at (numbers_of es) (drop (length (numbers_of es)) room) (length es * 5) (length-numbers es) in
    let m : n ≡ length s = reads_length s es n (whole_inv s es n q).0 ∙ ap length t.1 in
    ap (λ x. buffer_after_list (list_whole x) buf) l ∙ ap (λ w. buffer_after_list w buf) t.0
    ∙ ap (λ b. cond b (bytes_of es ++ drop n buf) buf) (le-leb n (length buf) h)
    ∙ ap (λ x. x ++ drop n buf) t.1 ∙ ap (λ k. s ++ drop k buf) m
