-- The records of an input: a letter, the number of the bytes that follow in two bytes, and these bytes.
-- These are definitions.
use Rattle.std.specs.Prelude.{ℕ, ◌≡◌, ◌+◌, ◌<◌, ◌≤◌, List, length, take, drop, get_or}
use Rattle.big_endian.specs.Numbers.{two_at}

-- how many bytes follow the first letter and their number
abbrev pub record_size : List ℕ → ℕ
record_size input = two_at input 1

-- an input that ends before its first record does
abbrev pub IsCut : List ℕ → Type 0
IsCut input = length input < 3 + record_size input

-- an input begins with that record, and what follows it
pub record Begins (input : List ℕ) (letter : ℕ) (bytes rest : List ℕ) : Type 0 where
  pub whole : 3 + record_size input ≤ length input
  pub is_letter : letter ≡ get_or input 0 0
  pub are_bytes : bytes ≡ take (record_size input) (drop 3 input)
  pub is_rest : rest ≡ drop (3 + record_size input) input
