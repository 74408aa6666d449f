-- How the code's table is read: rows of thirteen bytes, one after the other.
use Rattle.std.specs.Prelude.{ℕ, zero, suc, ◌%◌, cond, List, [], ◌∷◌, ◌++◌, eqb, get_or, take, drop}
use Prim.Native.Char.{code}
use Rattle.request_format.specs.declared.fields.Shape.TheVariants as S
use Rattle.request_format.specs.declared.fields.Width.{Width}
use Rattle.request_format.specs.declared.fields.Width.TheVariants as W
use Rattle.request_format.specs.declared.fields.Field.{Field}
use Rattle.request_format.specs.Rows.{element_rows, alike_rows}

-- the rows of an eclipse's elements, of a star's, of station and window
unfoldable pub tables : List Field
tables = element_rows S.Eclipse ++ element_rows S.Star ++ alike_rows

-- "4" and "2" are signed bytes, "u" two unsigned
unfoldable pub width_from : ℕ → Width
width_from letter = cond (eqb letter (code "u")) W.Unsigned2 (cond (eqb letter (code "2")) W.Signed2 W.Signed4)

-- a name and its blanks
abbrev pub name_from : List ℕ → List ℕ
name_from l = at 0 ∷ at 1 ∷ at 2 ∷ at 3 ∷ at 4 ∷ at 5 ∷ at 6 ∷ at 7 ∷ at 8 ∷ []
  where
    at : ℕ → ℕ
    at i = get_or l i 0

-- the name, its length, the decimals, the bytes, the kind; a digit is 48 and its value
unfoldable pub field_from : List ℕ → Field
field_from l =
    record {
      0 = name_from l;
      1 = get_or l 9 0 % 16;
      2 = get_or l 10 0 % 16;
      3 = width_from (get_or l 11 0);
      4 = get_or l 12 0 % 16;
    }

-- n rows
unfoldable pub fields_in : ℕ → List ℕ → List Field
fields_in zero l = []
fields_in (suc n) l = field_from (take 13 l) ∷ fields_in n (drop 13 l)
