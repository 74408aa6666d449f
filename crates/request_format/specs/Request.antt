-- The bytes of a request, an eclipse's or a star's: the layout of its numbers.
use Rattle.std.specs.Prelude.{List, ℕ, ℤ, Option, Some, None, Result, Ok, Err}
use Rattle.request_format.specs.declared.fields.Shape.{Shape}
use Rattle.request_format.specs.declared.fields.Shape.TheVariants as S
use Rattle.request_format.specs.Fields.{layout_of}
use Rattle.request_format.specs.Layout.{Piece, pieces_of, size_of, fitting, bytes_by, Reading, numbers, misshaped, read_by}

abbrev pub pieces_for : Shape → List Piece
pieces_for s = pieces_of (layout_of s)

-- how many bytes it has
abbrev pub size_for : Shape → ℕ
size_for s = size_of (pieces_for s)

-- ---- numbers to bytes

unfoldable pub put_for : Shape → List ℤ → Result Unit ℕ
put_for s ns = fitting (pieces_for s) 0 ns

unfoldable pub bytes_for : Shape → List ℤ → List ℕ
bytes_for s ns = bytes_by (pieces_for s) ns

-- "After any refusal the buffer holds its old bytes"
abbrev pub after_by : Result Unit ℕ → List ℕ → List ℕ → List ℕ
after_by (Ok tt) new old = new
after_by (Err k) new old = old

unfoldable pub after_for : Shape → List ℤ → List ℕ → List ℕ
after_for s ns old = after_by (put_for s ns) (bytes_for s ns) old

-- ---- bytes to numbers

unfoldable pub reading_for : Shape → List ℕ → Reading
reading_for s bytes = read_by (pieces_for s) bytes

abbrev pub got_of : Reading → Option Unit
got_of (numbers ns) = Some tt
got_of misshaped = None

abbrev pub numbers_after : Reading → List ℤ → List ℤ
numbers_after (numbers ns) old = ns
numbers_after misshaped old = old

-- ---- an eclipse's

abbrev pub size : ℕ
size = size_for S.Eclipse

abbrev pub put_of : List ℤ → Result Unit ℕ
put_of = put_for S.Eclipse

abbrev pub bytes_of : List ℤ → List ℕ
bytes_of = bytes_for S.Eclipse

abbrev pub bytesAfter : List ℤ → List ℕ → List ℕ
bytesAfter = after_for S.Eclipse

abbrev pub reading_of : List ℕ → Reading
reading_of = reading_for S.Eclipse
