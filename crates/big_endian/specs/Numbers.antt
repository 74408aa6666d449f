-- Numbers in bytes: "numbers big-endian and unsigned".
use Rattle.std.specs.Prelude.{ℕ, ◌+◌, ◌*◌, ◌/◌, ◌%◌, ◌<◌, List, [], ◌∷◌, ◌++◌, get_or}

-- the bytes of a number: of two bytes, of four and of eight
abbrev pub two : ℕ → List ℕ
two v = v / 256 % 256 ∷ v % 256 ∷ []

abbrev pub four : ℕ → List ℕ
four v = two (v / 65536) ++ two v

abbrev pub eight : ℕ → List ℕ
eight v = four (v / 4294967296) ++ four v

-- the number of two bytes at a place, of four and of eight
abbrev pub two_at : List ℕ → ℕ → ℕ
two_at s at = get_or s at 0 * 256 + get_or s (at + 1) 0

abbrev pub four_at : List ℕ → ℕ → ℕ
four_at s at = two_at s at * 65536 + two_at s (at + 2)

abbrev pub eight_at : List ℕ → ℕ → ℕ
eight_at s at = four_at s at * 4294967296 + four_at s (at + 4)

-- a list of bytes
abbrev pub Bytes : List ℕ → Type 0
Bytes s = (i : ℕ) → get_or s i 0 < 256
