-- Document 01's examples of near, the second as document 02 has it (wish 3), and rows of the root and its rounds, by
-- computation.
use Rattle.std.specs.Prelude.{◌≡◌, refl, pos, negsuc}
use Rattle.rounding.specs.Near.{near}
use Rattle.rounding.specs.Root.{root}
use Rattle.rounding.specs.Rounds.{bits, rounds_of, taken, held}

-- near(50,000,000/10^8) = 1
pub near-half : near (pos 50000000) (pos 100000000) ≡ pos 1
unfolding near
near-half = refl

-- near(-50,000,000/10^8) = -1
pub near-half_below : near (negsuc 49999999) (pos 100000000) ≡ negsuc 0
unfolding near
near-half_below = refl

-- near(-50,000,001/10^8) = -1
pub near_past_half_below : near (negsuc 50000000) (pos 100000000) ≡ negsuc 0
unfolding near
near_past_half_below = refl

-- 2147483647 is the root of its square
pub root_of_square : root 4611686014132420609 ≡ 2147483647
unfolding root
root_of_square = refl

-- "none for zero"
pub rounds_of_zero : rounds_of 0 ≡ 0
unfolding rounds_of bits
rounds_of_zero = refl

-- "a single bit left at the top counting as two": 100 in binary
pub rounds_of_three_bits : rounds_of 4 ≡ 2
unfolding rounds_of bits
rounds_of_three_bits = refl

-- "from the top": of 1110 in binary the first round takes in 11
pub taken-from_the_top : taken 14 1 ≡ 3
unfolding rounds_of bits
taken-from_the_top = refl

-- 3 is the root of 14, and 1 that of 3
pub held_after_one : held 14 1 ≡ 1
unfolding held rounds_of bits
held_after_one = refl

pub held_after_two : held 14 2 ≡ 3
unfolding held rounds_of bits
held_after_two = refl
