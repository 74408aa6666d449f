-- The state of a second in a phase, and what it means. Definitions only.
use Rattle.std.specs.Prelude.{ℕ, zero, suc, ◌≡◌}

-- "*inside* if ..; *outside* if ..; otherwise *unsure*". The three words, and a sure second for one that is inside or
-- outside, are document 01's own.
pub data State : Type 0 where
  inside : State
  outside : State
  unsure : State

-- as a byte
abbrev pub code : State → ℕ
code outside = 0
code inside = 1
code unsure = 2

-- and back: any number above 1 is unsure
abbrev pub state_of : ℕ → State
state_of zero = outside
state_of (suc zero) = inside
state_of (suc (suc n)) = unsure

-- Demand 3: "Where our program says inside or outside, that is the exact answer. It says unsure only where the exact
-- distance lies" "within the guard plus 13" units "of the cone's edge" (document 02, wish 9). The parameters are what
-- is said, that the second is exactly inside, and that it lies so near the edge.
pub record SaidRightly (said : State) (Inside Near : Type 0) : Type 0 where
  pub inside_is : said ≡ inside → Inside
  pub outside-is : said ≡ outside → Inside → ⊥
  pub unsure-is : said ≡ unsure → Near
