-- Laws of the rows: as many as there are numbers, one after the other.
use Rattle.std.specs.Prelude.{◌≡◌, refl, Bool, true, ◌&&◌, ℕ, zero, suc, ◌+◌, ◌-◌, ◌≤◌, ◌<◌, T, leb, get_or, drop}
use Rattle.std.proofs.Math.Path.{sym, ap}
use Rattle.std.proofs.Common.{◌∙◌, add-one, leb→le, drop_of_length-le, length-take-le}
use mathlib.Core.List.{List, [], ◌∷◌, ◌++◌, map}
use native.Mathlib.Omega.{arith}
use Rattle.std.proofs.Math.Facts.{and_yes}
use Rattle.std.proofs.Math.ListN.{length, get_or-append}
use Rattle.std.proofs.Math.Seq.{drop-cons, get_or-append-add}
use Rattle.request_format.specs.declared.fields.Field.{Field}
use Rattle.request_format.specs.declared.fields.Shape.{Shape}
use Rattle.request_format.specs.declared.fields.Shape.TheVariants as S
use Rattle.request_format.specs.Fields.{Number, layout_of, numbers_of, countOf}
use Rattle.request_format.specs.Rows.{letters, rows, element_rows, alike_rows, none, row_in, rowAt, name_of}

pub rows-count : (s : Shape) → length (rows s) ≡ countOf s
unfolding rows
rows-count S.Eclipse = refl
rows-count S.Star = refl

module _ (s : Shape) (k : ℕ) where
  pub rows_next : k < countOf s → drop k (rows s) ≡ rowAt s k ∷ drop (k + 1) (rows s)
  unfolding rowAt
  rows_next h = rw (add-one, drop-cons (rows s) k none (omega (arith, rows-count s)))

  pub rows_end : countOf s ≤ k → drop k (rows s) ≡ []
  rows_end h = drop_of_length-le (rows s) {i = k} (omega (arith, rows-count s))

-- the elements' rows, and after them those of station and window
pub rows_split : (s : Shape) → rows s ≡ element_rows s ++ alike_rows
unfolding rows element_rows alike_rows
rows_split S.Eclipse = refl
rows_split S.Star = refl

module _ (s : Shape) (k : ℕ) where
  pub row_first : k < length (element_rows s) → row_in (element_rows s) k ≡ rowAt s k
  unfolding rowAt
  row_first h = rw (rows_split s, get_or-append (element_rows s) alike_rows none k h)

  pub row-after : length (element_rows s) ≤ k → row_in alike_rows (k - length (element_rows s)) ≡ rowAt s k
  unfolding rowAt
  row-after h =
      let e : k ≡ length (element_rows s) + (k - length (element_rows s)) = omega arith in
      sym (ap (λ (l : List Field). row_in l k) (rows_split s) ∙ ap (row_in (element_rows s ++ alike_rows)) e
      ∙ get_or-append-add (element_rows s) alike_rows (k - length (element_rows s)) none)

-- ---- names

-- the rows have the numbers' names
pub names_are : (s : Shape) → map name_of (rows s) ≡ map (λ (n : Number). letters n.name) (numbers_of (layout_of s))
unfolding rows
names_are S.Eclipse = refl
names_are S.Star = refl

-- no name is longer than its field
allRoom : List Field → Bool
allRoom [] = true
allRoom (f ∷ fs) = leb f.1 (length f.0) && allRoom fs

room : (l : List Field) (k : ℕ) → T (allRoom l) → (get_or l k none).1 ≤ length (get_or l k none).0
unfolding allRoom
room [] k t = omega arith
room (f ∷ fs) zero t = leb→le f.1 (length f.0) (and_yes (leb f.1 (length f.0)) (allRoom fs) t).0
room (f ∷ fs) (suc k) t = room fs k (and_yes (leb f.1 (length f.0)) (allRoom fs) t).1

all_room : (s : Shape) → T (allRoom (rows s))
unfolding rows allRoom
all_room S.Eclipse = tt
all_room S.Star = tt

module _ (s : Shape) (k : ℕ) where
  pub name-room : (rowAt s k).1 ≤ length (rowAt s k).0
  unfolding rowAt
  name-room = room (rows s) k (all_room s)

  pub name-length : length (name_of (rowAt s k)) ≡ (rowAt s k).1
  name-length = length-take-le (rowAt s k).1 (rowAt s k).0 name-room
