-- What a program writes.
-- These are definitions.
use Rattle.std.specs.Prelude.{ℕ, ◌≡◌, List, [], ℤ, pos}

-- a text that is written to a descriptor: 1 is standard output, 2 is standard error. The other output has nothing.
pub data Sent (descriptor : ℤ) (text output error : List ℕ) : Type 0 where
  to_output : descriptor ≡ pos 1 → text ≡ output → [] ≡ error → Sent descriptor text output error
  to_error : descriptor ≡ pos 2 → [] ≡ output → text ≡ error → Sent descriptor text output error
