-- The entries of a sheet as bytes and as numbers.
use Rattle.std.specs.Prelude.{ℕ, List, [], ◌∷◌, ◌++◌}
use Rattle.sheet_format.specs.declared.kinds.Widths.{Widths}
use Rattle.sheet_format.specs.declared.kinds.Entry.{Entry}
use Rattle.sheet_format.specs.Kinds.{code_of, widths_of}
use Rattle.sheet_format.specs.Numbers.{number}

-- the numbers of an entry in their widths, one after the other
abbrev pub body : Widths → Entry → List ℕ
body w e = number w.a e.a ++ (number w.b e.b ++ (number w.c e.c ++ number w.d e.d))

-- the bytes of an entry: its record
abbrev pub bytes : Entry → List ℕ
bytes e = code_of e.kind ∷ body (widths_of e.kind) e

-- an entry as five numbers: its kind's byte and its fields
abbrev pub numbers : Entry → List ℕ
numbers e = code_of e.kind ∷ e.a ∷ e.b ∷ e.c ∷ e.d ∷ []

-- the bytes of a list of entries, and its numbers
unfoldable pub bytes_of : List Entry → List ℕ
bytes_of [] = []
bytes_of (e ∷ es) = bytes e ++ bytes_of es

unfoldable pub numbers_of : List Entry → List ℕ
numbers_of [] = []
numbers_of (e ∷ es) = numbers e ++ numbers_of es
