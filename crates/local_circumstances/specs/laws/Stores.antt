-- Bytes stored one list after the other: how a sheet is written, entry by entry and phase by phase.
use Rattle.std.specs.Prelude.{◌≡◌, true, false, List, [], ◌∷◌, ◌++◌, ℕ, suc, ◌+◌, ◌≤◌, length, set, drop}
use Rattle.std.proofs.Math.Path.{sym, ap}
use Rattle.std.proofs.Common.{◌∙◌, arith, add-zero, zero-add}
use Rattle.std.proofs.Math.Seq.{sets}
use Rattle.std.proofs.lemmas.List.Edits.{sets-eq}
use Rattle.sheet_types.specs.declared.phases.Phase.{Phase}
use Rattle.sheet_format.specs.declared.kinds.Entry.{Entry}
use Rattle.sheet_format.specs.Kinds.{size_of}
use Rattle.sheet_format.specs.Entries.{end}
use Rattle.sheet_format.specs.RecordEntries.{bytes, bytes_of}
use Rattle.sheet_format.specs.laws.EntryLaws.{bytes-nil, bytes_cons, length-bytes}
use Rattle.local_circumstances.specs.Courses.{Course, phaseEntries, entriesOf, headEntry, closestEntry, shareEntry, closingEntries, sheetOf}
use Rattle.local_circumstances.specs.laws.Lengths.{bytes-append, entries-more, closing-shared, closing-plain}

-- the second list is stored behind the first
pub stores_append : (x y l : List ℕ) (i : ℕ) → sets l i (x ++ y) ≡ sets (sets l i x) (i + length x) y
stores_append [] y l i = rw (add-zero i)
stores_append (a ∷ x) y l i =
    let e : i + suc (length x) ≡ suc i + length x = omega arith in
    rw e (stores_append x y (set l i a) (suc i))

-- from the start: the bytes, and what stood behind them
pub stores_start : (b l : List ℕ) → length b ≤ length l → sets l 0 b ≡ b ++ drop (length b) l
stores_start b l h = sets-eq b l 0 (omega arith) ∙ rw (zero-add (length b))

-- an entry, and then the others
pub stores_entry : (e : Entry) (es : List Entry) (l : List ℕ) (at : ℕ) → sets l at (bytes_of (e ∷ es)) ≡ sets (sets l at (bytes e)) (at + size_of e.kind) (bytes_of es)
stores_entry e es l at =
    ap (sets l at) (bytes_cons e es)
    ∙ stores_append (bytes e) (bytes_of es) l at
    ∙ ap (λ (n : ℕ). sets (sets l at (bytes e)) (at + n) (bytes_of es)) (length-bytes e)

pub stores_none : (l : List ℕ) (at : ℕ) → sets l at (bytes_of []) ≡ l
stores_none l at = ap (sets l at) bytes-nil

-- the end entry is the last
stores_last : (l : List ℕ) (at : ℕ) → sets l at (bytes_of (end ∷ [])) ≡ sets l at (bytes end)
stores_last l at = stores_entry end [] l at ∙ stores_none (sets l at (bytes end)) (at + size_of end.kind)

-- some entries, and then the others
pub stores_entries : (xs ys : List Entry) (l : List ℕ) (at : ℕ) → sets l at (bytes_of (xs ++ ys)) ≡ sets (sets l at (bytes_of xs)) (at + length (bytes_of xs)) (bytes_of ys)
stores_entries xs ys l at = ap (sets l at) (bytes-append xs ys) ∙ stores_append (bytes_of xs) (bytes_of ys) l at

module _ (c : Course) where
  -- some phases, and one more
  pub stores-phase : (φs : List Phase) (φ : Phase) (l : List ℕ) (at : ℕ)
      → sets l at (bytes_of (entriesOf c (φs ++ φ ∷ []))) ≡ sets (sets l at (bytes_of (entriesOf c φs))) (at + length (bytes_of (entriesOf c φs))) (bytes_of (phaseEntries c φ))
  stores-phase φs φ l at = ap (λ (es : List Entry). sets l at (bytes_of es)) (entries-more c φs φ) ∙ stores_entries (entriesOf c φs) (phaseEntries c φ) l at

  -- what closes a sheet, with a share and without
  pub stores-shared : c.sharing ≡ true → (l : List ℕ) (at a b : ℕ) → a ≡ at + size_of (closestEntry c).kind → b ≡ a + size_of (shareEntry c).kind
      → sets (sets (sets l at (bytes (closestEntry c))) a (bytes (shareEntry c))) b (bytes end) ≡ sets l at (bytes_of (closingEntries c))
  stores-shared e l at a b ea eb =
      let l1 = sets l at (bytes (closestEntry c)) in
      let l2 = sets l1 a (bytes (shareEntry c)) in
      sym
      (ap (λ (es : List Entry). sets l at (bytes_of es)) (closing-shared c e)
      ∙ stores_entry (closestEntry c) (shareEntry c ∷ end ∷ []) l at
      ∙ ap (λ (n : ℕ). sets l1 n (bytes_of (shareEntry c ∷ end ∷ []))) (sym ea)
      ∙ stores_entry (shareEntry c) (end ∷ []) l1 a
      ∙ ap (λ (n : ℕ). sets l2 n (bytes_of (end ∷ []))) (sym eb)
      ∙ stores_last l2 b)

  pub stores-plain : c.sharing ≡ false → (l : List ℕ) (at a : ℕ) → a ≡ at + size_of (closestEntry c).kind
      → sets (sets l at (bytes (closestEntry c))) a (bytes end) ≡ sets l at (bytes_of (closingEntries c))
  stores-plain e l at a ea =
      let l1 = sets l at (bytes (closestEntry c)) in
      sym
      (ap (λ (es : List Entry). sets l at (bytes_of es)) (closing-plain c e)
      ∙ stores_entry (closestEntry c) (end ∷ []) l at
      ∙ ap (λ (n : ℕ). sets l1 n (bytes_of (end ∷ []))) (sym ea)
      ∙ stores_last l1 a)

  -- the whole sheet, in its three steps
  pub stores-sheet : (l : List ℕ) (a b : ℕ) → a ≡ size_of (headEntry c).kind → b ≡ a + length (bytes_of (entriesOf c c.phases))
      → sets (sets (sets l 0 (bytes (headEntry c))) a (bytes_of (entriesOf c c.phases))) b (bytes_of (closingEntries c)) ≡ sets l 0 (bytes_of (sheetOf c))
  unfolding sheetOf
  stores-sheet l a b ea eb =
      let es = entriesOf c c.phases in
      let tail = closingEntries c in
      let l1 = sets l 0 (bytes (headEntry c)) in
      sym
      (stores_entry (headEntry c) (es ++ tail) l 0
      ∙ ap (λ (n : ℕ). sets l1 n (bytes_of (es ++ tail))) (zero-add (size_of (headEntry c).kind) ∙ sym ea)
      ∙ stores_entries es tail l1 a
      ∙ ap (λ (n : ℕ). sets (sets l1 a (bytes_of es)) n (bytes_of tail)) (sym eb))
