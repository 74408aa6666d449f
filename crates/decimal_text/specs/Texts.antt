-- A text put at a place of a caller's array, as far as the array goes.
use Rattle.std.specs.Prelude.{ℕ, ◌+◌, ◌≤◌, min, ◌≡◌, List, [], ◌∷◌, length, take, replicate}
use Prim.Native.Char.{code}
use Prim.Native.String.{String, [] as ε, ◌∷◌ as ◌then◌}
use Rattle.std.proofs.lemmas.List.Edits.{sets}

-- the bytes of a text
abbrev pub letters : String → List ℕ
letters ε = []
letters (c then s) = code c ∷ letters s

-- a number, or the greatest of 64 bits where it is above that. No buffer is as long.
unfoldable pub capped : ℕ → ℕ
capped n = min n 18446744073709551615

-- the place after the text, also where the buffer ends before it; and the buffer with those bytes of the text that
-- have a place in it
pub record Put (old : List ℕ) (at : ℕ) (text new : List ℕ) (r : ℕ) : Type 0 where
  pub place : r ≡ capped (at + length text)
  pub room : new ≡ sets old at text

-- n counts bytes at the start of a buffer. The second part follows from the first: a caller's `&out[..n]` asks for it.
abbrev pub Counts : ℕ → List ℕ → Type 0
Counts n out = (n ≤ length out) × (n ≡ length (take n out))

-- an array that holds n times the same
pub record Copies (x n : ℕ) (l : List ℕ) : Type 0 where
  pub is : l ≡ replicate n x
