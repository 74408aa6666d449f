-- Texts one after the other, as a program prints them: one for each number below another, and one for each record of
-- an input.
use Rattle.std.specs.Prelude.{ℕ, zero, suc, ◌*◌, ◌/◌, List, [], ◌++◌, length, take, drop}

-- text 0, text 1, .. text (n - 1)
unfoldable pub rows : (ℕ → List ℕ) → ℕ → List ℕ
rows text zero = []
rows text (suc n) = rows text n ++ text n

-- record k of an input whose records have `size` bytes each
abbrev pub part : ℕ → List ℕ → ℕ → List ℕ
part size input k = take size (drop (k * size) input)

-- the text of each whole record of an input, in their order
abbrev pub each_part : ℕ → (List ℕ → List ℕ) → List ℕ → List ℕ
each_part size text input = rows (λ k. text (part size input k)) (length input / size)
