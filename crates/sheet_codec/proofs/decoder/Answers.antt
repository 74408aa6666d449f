-- What the two passes of a reader, and of a writer, answer and leave together.
use Rattle.std.specs.Prelude.{Ok, Err}
use Prim.Native.Nat.{ℕ, ◌/◌, ◌≤◌, ◌<◌}
use mathlib.Core.Path.{◌≡◌, refl, sym, ap, ◌∙◌}
use mathlib.Core.List.{List, ◌++◌}
use mathlib.Core.Bool.{true, false}
use native.Mathlib.Omega.{arith}
use native.Mathlib.Nat.{zero-add}
use borrow.Author.Tests.{le-leb, lt-leb}
use lib.ListN.{length, drop}
use lib.Seq.{sets, sets-eq}
use Rattle.sheet_types.specs.declared.refusals.Refusal.{Refusal}
use Rattle.sheet_types.specs.Refusals.{refusal}
use Rattle.sheet_format.specs.declared.kinds.Entry.{Entry}
use Rattle.sheet_format.specs.RecordEntries.{numbers, bytes, bytes_of, numbers_of}
use Rattle.sheet_format.specs.laws.EntryLaws.{bytes-nil, bytes_cons, numbers-nil, numbers_cons, length-numbers}
use Rattle.sheet_rules.specs.Rules.{start}
use Rattle.sheet_codec.specs.Sheets.{Sheet, sheet, refused, stored_at, read_sheet, extent_of, read_into, room_after, holds}
use Rattle.sheet_codec.specs.Handed.{handed_at, list_sheet, write_into, buffer_after_list}
use Rattle.sheet_codec.specs.laws.SheetLaws.{read-start, list_start, extent_inv, extent_refused}
use Rattle.sheet_codec.specs.RoundTrip.{list_length}
use Rattle.sheet_codec.specs.laws.Passes.{RoomFor, filled, BufferFor, emitted}
use Rattle.sheet_codec.proofs.decoder.Passing.{Parts, Passing}

pub of-numbers : Parts numbers numbers_of
of-numbers = record { nil = numbers-nil; cons = numbers_cons }

pub of-bytes : Parts bytes bytes_of
of-bytes = record { nil = bytes-nil; cons = bytes_cons }

pub reading-starts : (s room : List ℕ) → RoomFor (read_sheet s) (length room)
    → Passing (stored_at s) (length s) numbers_of (filled (read_sheet s) room) room 0 0 0
reading-starts s room h = by (read_sheet s) refl h
  where
    by : (w : Sheet) → read_sheet s ≡ w → RoomFor w (length room) → Passing (stored_at s) (length s) numbers_of (filled (read_sheet s) room) room 0 0 0
    by (refused r) q h = absurd h
    by (sheet es n) q h =
        record {
          rest = record { p = start; es = es; long = n; is = sym (read-start s) ∙ q };
          fits = omega (arith, length-numbers es);
          left = ap (λ w. filled w room) (sym q);
        }

pub writing-starts : (l buf : List ℕ) → BufferFor (list_sheet l) (length buf)
    → Passing (handed_at l) (length l) bytes_of (emitted (list_sheet l) buf) buf 0 0 0
writing-starts l buf h = by (list_sheet l) refl h
  where
    by : (w : Sheet) → list_sheet l ≡ w → BufferFor w (length buf) → Passing (handed_at l) (length l) bytes_of (emitted (list_sheet l) buf) buf 0 0 0
    by (refused r) q h = absurd h
    by (sheet es n) q h =
        record {
          rest = record { p = start; es = es; long = n; is = sym (list_start l) ∙ q };
          fits = omega (arith, list_length l es n q);
          left = ap (λ w. emitted w buf) (sym q);
        }

module _ (w : Sheet) where
  pub room_for : (k m n : ℕ) → Ok (m, n) ≡ extent_of w → m ≤ k / 5 → RoomFor w k
  room_for k m n q h = let x = extent_inv w m n q in rw x.1 (let z : length x.0 ≡ m = x.2 in omega arith)

  pub read_refused : (room : List ℕ) (r : Refusal) → Err r ≡ extent_of w → (Err r ≡ read_into (length room) w) × (room ≡ room_after w room)
  read_refused room r q = rw (extent_refused w r q) (refl, refl)

  pub read_short : (room : List ℕ) (m n : ℕ) → Ok (m, n) ≡ extent_of w → length room / 5 < m
      → (Err (refusal 4 m) ≡ read_into (length room) w) × (room ≡ room_after w room)
  read_short room m n q h =
      let x = extent_inv w m n q in
      let t : holds x.0 (length room) ≡ false = lt-leb (length x.0) (length room / 5) (let z : length x.0 ≡ m = x.2 in omega arith) in
      rw (x.1, t, x.2) (refl, refl)

  pub read-full : (room new : List ℕ) (m n : ℕ) → Ok (m, n) ≡ extent_of w → m ≤ length room / 5 → new ≡ filled w room
      → (Ok (m, n) ≡ read_into (length room) w) × (new ≡ room_after w room)
  read-full room new m n q h f =
      let x = extent_inv w m n q in
      let z : length x.0 ≡ m = x.2 in
      let t : holds x.0 (length room) ≡ true = le-leb (length x.0) (length room / 5) (omega arith) in
      let g : new ≡ sets room 0 (numbers_of x.0) = f ∙ ap (λ v. filled v room) x.1 in
      let s : sets room 0 (numbers_of x.0) ≡ numbers_of x.0 ++ drop (length (numbers_of x.0)) room =
      sets-eq (numbers_of x.0) room 0 (omega (arith, length-numbers x.0)) ∙ rw zero-add in
      rw (x.1, t) (ap (λ k. Ok (k, n)) (sym x.2), g ∙ s)

  pub buffer-for : (k m n : ℕ) → Ok (m, n) ≡ extent_of w → n ≤ k → BufferFor w k
  buffer-for k m n q h = let x = extent_inv w m n q in rw x.1 h

  pub write-refused : (buf : List ℕ) (r : Refusal) → Err r ≡ extent_of w → (Err r ≡ write_into (length buf) w) × (buf ≡ buffer_after_list w buf)
  write-refused buf r q = rw (extent_refused w r q) (refl, refl)

  pub write-short : (buf : List ℕ) (m n : ℕ) → Ok (m, n) ≡ extent_of w → length buf < n
      → (Err (refusal 4 n) ≡ write_into (length buf) w) × (buf ≡ buffer_after_list w buf)
  write-short buf m n q h =
      let x = extent_inv w m n q in
      rw (x.1, lt-leb n (length buf) h) (refl, refl)

  pub write-full : (buf new : List ℕ) (m n : ℕ) → Ok (m, n) ≡ extent_of w → n ≤ length buf → new ≡ emitted w buf
      → ((es : List Entry) → w ≡ sheet es n → n ≡ length (bytes_of es))
      → (Ok (m, n) ≡ write_into (length buf) w) × (new ≡ buffer_after_list w buf)
  write-full buf new m n q h f len =
      let x = extent_inv w m n q in
      let k : n ≡ length (bytes_of x.0) = len x.0 x.1 in
      let g : new ≡ sets buf 0 (bytes_of x.0) = f ∙ ap (λ v. emitted v buf) x.1 in
      let s : sets buf 0 (bytes_of x.0) ≡ bytes_of x.0 ++ drop n buf =
      sets-eq (bytes_of x.0) buf 0 (omega arith) ∙ rw (zero-add, ← k) in
      rw (x.1, le-leb n (length buf) h) (ap (λ k. Ok (k, n)) (sym x.2), g ∙ s)
