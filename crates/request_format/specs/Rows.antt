-- The rows of the code's table are those of the definition: a name with blanks after it, and a kind where a record
-- begins.
use Rattle.std.specs.Prelude.{ℕ, List, [], ◌∷◌, ◌++◌, map, length, get_or, take, replicate}
use Prim.Native.Char.{code}
use Prim.Native.String.{String, [] as ε, ◌∷◌ as ◌then◌}
use Rattle.request_format.specs.declared.fields.Shape.{Shape}
use Rattle.request_format.specs.declared.fields.Shape.TheVariants as S
use Rattle.request_format.specs.declared.fields.Width.{Width}
use Rattle.request_format.specs.declared.fields.Width.TheVariants as W
use Rattle.request_format.specs.declared.fields.Field.{Field}
use Rattle.request_format.specs.Fields.{Number, Record, elements, star_elements, alike, layout_of}

-- the bytes of some letters
abbrev pub letters : String → List ℕ
letters ε = []
letters (c then s) = code c ∷ letters s

abbrev pub row_of : ℕ → Number → Field
row_of kind n =
    record {
      0 = take 9 (letters n.name ++ replicate 9 (code " "));
      1 = length (letters n.name);
      2 = n.decimals;
      3 = n.width;
      4 = kind;
    }

-- the first number of a record has its kind, the others have none
abbrev pub begun : ℕ → List Number → List Field
begun kind [] = []
begun kind (n ∷ ns) = row_of kind n ∷ map (row_of 0) ns

abbrev pub rows_of : List Record → List Field
rows_of [] = []
rows_of (r ∷ rs) = begun r.kind r.numbers ++ rows_of rs

unfoldable pub rows : Shape → List Field
rows s = rows_of (layout_of s)

-- those of the elements; of station and window, which follow both
unfoldable pub element_rows : Shape → List Field
element_rows S.Eclipse = rows_of (elements ∷ [])
element_rows S.Star = rows_of (star_elements ∷ [])

unfoldable pub alike_rows : List Field
alike_rows = rows_of alike

abbrev pub none : Field
none = record { 0 = []; 1 = 0; 2 = 0; 3 = W.Unsigned2; 4 = 0 }

abbrev pub row_in : List Field → ℕ → Field
row_in l k = get_or l k none

unfoldable pub rowAt : Shape → ℕ → Field
rowAt s k = row_in (rows s) k

-- a field's name, how many decimals one unit has, its bytes
abbrev pub name_of : Field → List ℕ
name_of f = take f.1 f.0

abbrev pub decimals_of : Shape → ℕ → ℕ
decimals_of s k = (rowAt s k).2

abbrev pub width_of : Shape → ℕ → Width
width_of s k = (rowAt s k).3
