-- The fields of the code's table, one after the other: the bytes of each, and what stands at its place.
use Rattle.std.specs.Prelude.{Bool, true, cond, ◌&&◌, List, [], ◌∷◌, ◌++◌, ℕ, zero, suc, ◌+◌, ltb, leb, eqb, ℤ, length, get_or, drop, Option, Some, None}
use Rattle.request_format.specs.declared.fields.Field.{Field}
use Rattle.request_format.specs.declared.fields.Shape.{Shape}
use Rattle.request_format.specs.declared.fields.Width.{Width}
use Rattle.request_format.specs.Fields.{bytes_in}
use Rattle.request_format.specs.Rows.{rows}
use Rattle.request_format.specs.Layout.{number_bytes, number_at, Piece, kind, number}

-- a field that begins a record has its kind before it
abbrev pub begun : ℕ → List Piece → List Piece
begun zero l = l
begun (suc k) l = kind (suc k) ∷ l

abbrev pub pieces_in : List Field → List Piece
pieces_in [] = []
pieces_in (f ∷ fs) = begun f.4 (number f.3 ∷ pieces_in fs)

-- the fields from field k on
unfoldable pub rest : Shape → ℕ → List Piece
rest s k = pieces_in (drop k (rows s))

-- ---- to bytes

abbrev pub kind_bytes : ℕ → List ℕ
kind_bytes zero = []
kind_bytes (suc k) = suc k ∷ []

unfoldable pub field_bytes : Field → ℤ → List ℕ
field_bytes f z = kind_bytes f.4 ++ number_bytes f.3 z

-- ---- from bytes

unfoldable pub kind_stands : ℕ → List ℕ → ℕ → Bool
kind_stands zero s at = true
kind_stands (suc k) s at = ltb at (length s) && eqb (get_or s at 0) (suc k)

-- the number whose bytes begin at `start`, and the place after it
abbrev pub part_from : Width → List ℕ → ℕ → Option (ℤ × ℕ)
part_from w s start = cond (leb (start + bytes_in w) (length s)) (Some ((number_at w s start), (start + bytes_in w))) None

unfoldable pub part_of : Field → List ℕ → ℕ → Option (ℤ × ℕ)
part_of f s at = cond (kind_stands f.4 s at) (part_from f.3 s (at + length (kind_bytes f.4))) None
