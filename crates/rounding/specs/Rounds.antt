-- The rounds of the root (document 02, wish 6): how many there are, and what each takes in and holds.
use Rattle.std.specs.Prelude.{◌≡◌, ℕ, zero, suc, ◌+◌, ◌*◌, ◌-◌, ◌/◌, ◌%◌, ◌^◌, ◌≤◌, ◌<◌}
use Rattle.rounding.specs.Root.{more, root}

-- "the bits being those up to the highest one set": none of 0, else one more than of half of it; at most f
abbrev pub bits_in : ℕ → ℕ → ℕ
bits_in zero n = 0
bits_in (suc f) zero = 0
bits_in (suc f) (suc m) = 1 + bits_in f (suc m / 2)

-- of a number of at most 64 bits
unfoldable pub bits : ℕ → ℕ
bits n = bits_in 64 n

-- "one round for each two bits of the number, a single bit left at the top counting as two and none for zero"
unfoldable pub rounds_of : ℕ → ℕ
rounds_of n = bits n / 2 + bits n % 2

-- "the bits taken in so far, from the top", after k rounds: two for each round to come are left off
abbrev pub taken : ℕ → ℕ → ℕ
taken n k = n / 2 ^ (2 * (rounds_of n - k))

-- the number held after k rounds: nothing at first; a round doubles it, and adds one if the square of that is within
-- the bits taken in
unfoldable pub held : ℕ → ℕ → ℕ
held n zero = 0
held n (suc k) = more (taken n (suc k)) (held n k)

-- the state of the loop with i rounds to come: the number held, and what the bits taken in are above its square
pub record Holds (n i r rest : ℕ) : Type 0 where
  pub few : i ≤ rounds_of n
  pub number : r ≡ held n (rounds_of n - i)
  pub above : r * r + rest ≡ taken n (rounds_of n - i)

-- "The reported number equals that of the definition and is at most 30 for anything below 2^60. The roots themselves
-- stay."
pub record Reported (n r k : ℕ) : Type 0 where
  pub stays : r ≡ root n
  pub equals : k ≡ rounds_of n
  pub few : n < 2 ^ 60 → k ≤ 30
