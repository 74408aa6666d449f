-- The sheet that the bytes from a place on begin with, by its length.
use Rattle.std.specs.Prelude.{ℕ, ◌+◌, ◌-◌, ◌≤◌, ◌<◌, ◌≡◌, List, length, take, drop, Ok, Err}
use Rattle.std.proofs.Common.{sym, ap, ◌∙◌, arith, length-drop, take_all}
use Rattle.sheet_types.specs.declared.refusals.Refusal.{Refusal}
use Rattle.sheet_codec.specs.Sheets.{Sheet, sheet, refused, read_sheet, extent_of}
use Rattle.sheet_codec.specs.laws.SheetLaws.{extent_inv, extent_refused}

-- how long the sheet is that some bytes begin with; 0 where they begin with none
abbrev pub leading : Sheet → ℕ
leading (sheet es n) = n
leading (refused r) = 0

-- no sheet begins at the n places before `at`
pub record NoneBefore (file : List ℕ) (at n : ℕ) : Type 0 where
  pub within : n ≤ at
  pub none : (i : ℕ) → i < at → at ≤ i + n → leading (read_sheet (drop i file)) ≡ 0

-- ---- what the reader says about the bytes from a place on

part-all : (file : List ℕ) (at : ℕ) → take (length file - at) (drop at file) ≡ drop at file
part-all file at = take_all (length file - at) (drop at file) (omega (arith, length-drop at file))

pub found-one : (file : List ℕ) (at k n : ℕ) → Ok (k, n) ≡ extent_of (read_sheet (take (length file - at) (drop at file)))
    → n ≡ leading (read_sheet (drop at file))
found-one file at k n q =
    let s = take (length file - at) (drop at file) in
    sym (ap leading (extent_inv (read_sheet s) k n q).1) ∙ ap (λ x. leading (read_sheet x)) (part-all file at)

pub found_none : (file : List ℕ) (at : ℕ) (r : Refusal) → Err r ≡ extent_of (read_sheet (take (length file - at) (drop at file)))
    → 0 ≡ leading (read_sheet (drop at file))
found_none file at r q =
    let s = take (length file - at) (drop at file) in
    sym (ap leading (extent_refused (read_sheet s) r q)) ∙ ap (λ x. leading (read_sheet x)) (part-all file at)
