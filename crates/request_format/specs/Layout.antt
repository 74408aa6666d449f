-- Numbers in records of bytes, by any layout: how they are written, and how they are read.
-- LayoutLaws has the law that each undoes the other.
use Rattle.std.specs.Prelude.{cond, List, [], ◌∷◌, ◌++◌, map, ℕ, suc, ◌+◌, ◌-◌, ◌*◌, ◌/◌, ltb, leb, eqb, ℤ, pos, negsuc, ◌-ℤ◌, length, drop, Result, Ok, Err}
use Rattle.big_endian.specs.Numbers.{two, four, two_at, four_at}
use Rattle.request_format.specs.declared.fields.Width.{Width}
use Rattle.request_format.specs.declared.fields.Width.TheVariants as W
use Rattle.request_format.specs.Fields.{bytes_in, is_signed, whole_of, holds, Number, Record}

-- ---- one number

-- two's complement: a number below zero stands for itself and `whole`, as many as its bytes tell apart
unfoldable pub complement : ℕ → ℤ → ℕ
complement whole (pos n) = n
complement whole (negsuc n) = whole - suc n

-- and back: from `half` of them on it stands for itself less twice that
unfoldable pub signed : ℕ → ℕ → ℤ
signed half n = cond (ltb n half) (pos n) (pos n -ℤ pos (2 * half))

-- "numbers big-endian": a number's bytes, and the number of the bytes at a place (two, four, two_at, four_at: records)
abbrev pub big_endian : Width → ℕ → List ℕ
big_endian W.Unsigned2 n = two n
big_endian W.Signed2 n = two n
big_endian W.Signed4 n = four n

abbrev pub value_at : Width → List ℕ → ℕ → ℕ
value_at W.Unsigned2 s at = two_at s at
value_at W.Signed2 s at = two_at s at
value_at W.Signed4 s at = four_at s at

unfoldable pub number_bytes : Width → ℤ → List ℕ
number_bytes w z = big_endian w (complement (whole_of w) z)

unfoldable pub number_at : Width → List ℕ → ℕ → ℤ
number_at w s at = cond (is_signed w) (signed (whole_of w / 2) (value_at w s at)) (pos (value_at w s at))

-- ---- a layout

-- a record is a byte of kind, then its numbers
pub data Piece : Type 0 where
  kind : ℕ → Piece
  number : Width → Piece

abbrev pub pieces_of : List Record → List Piece
pieces_of [] = []
pieces_of (r ∷ rs) = kind r.kind ∷ map (λ (n : Number). number n.width) r.numbers ++ pieces_of rs

-- how many numbers it has, and how many bytes
abbrev pub count_in : List Piece → ℕ
count_in [] = 0
count_in (kind b ∷ l) = count_in l
count_in (number w ∷ l) = suc (count_in l)

abbrev pub size_of : List Piece → ℕ
size_of [] = 0
size_of (kind b ∷ l) = suc (size_of l)
size_of (number w ∷ l) = bytes_in w + size_of l

-- the first number that its bytes do not hold, from number k on
unfoldable pub fitting : List Piece → ℕ → List ℤ → Result Unit ℕ
fitting [] k ns = Ok tt
fitting (kind b ∷ l) k ns = fitting l k ns
fitting (number w ∷ l) k [] = Ok tt
fitting (number w ∷ l) k (z ∷ ns) = cond (holds w z) (fitting l (k + 1) ns) (Err k)

-- the bytes of some numbers; those that are not there have none
unfoldable pub bytes_by : List Piece → List ℤ → List ℕ
bytes_by [] ns = []
bytes_by (kind b ∷ l) ns = b ∷ bytes_by l ns
bytes_by (number w ∷ l) [] = []
bytes_by (number w ∷ l) (z ∷ ns) = number_bytes w z ++ bytes_by l ns

-- the numbers of some bytes, if they are of the shape
pub data Reading : Type 0 where
  numbers : List ℤ → Reading
  misshaped : Reading

abbrev pub before : ℤ → Reading → Reading
before z (numbers ns) = numbers (z ∷ ns)
before z misshaped = misshaped

unfoldable pub read_by : List Piece → List ℕ → Reading
read_by [] [] = numbers []
read_by [] (x ∷ s) = misshaped
read_by (kind b ∷ l) [] = misshaped
read_by (kind b ∷ l) (x ∷ s) = cond (eqb x b) (read_by l s) misshaped
read_by (number w ∷ l) s =
    cond (leb (bytes_in w) (length s)) (before (number_at w s 0) (read_by l (drop (bytes_in w) s))) misshaped
