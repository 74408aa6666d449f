-- What a program has read of its input.
-- These are definitions.
use Rattle.std.specs.Prelude.{ℕ, ◌≡◌, List, length, take, replicate, Option}
use Rattle.std.specs.Io.KnownBytes.{Consumes}
use Rattle.decimal_text.specs.Texts.{Counts}

-- `read_input` stores the first bytes of the input in an array, as many as the array holds, and gives their number n.
-- No contract in Rattle can say which bytes standard input gives. So a program promises its answer to every input from
-- which the array can have been read, and to what a reader had left where that is known.
abbrev pub Read : (input array : List ℕ) → ℕ → Type 0
Read input array n = take n array ≡ take (length array) input

-- After a failed read: the array begins with the bytes that the reader has no more, where it is known what it had.
abbrev pub NoneLost : Option (List ℕ) → Option (List ℕ) → List ℕ → Type 0
NoneLost old new array = (n : ℕ) × Counts n array × Consumes old new (take n array)

-- a buffer of n zeros, as a program provides it
abbrev pub zeros : ℕ → List ℕ
zeros n = replicate n 0
