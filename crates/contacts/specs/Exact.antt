-- Exact answers: states that agree with them, and what is claimed of entries by them. Definitions only.
-- An exact answer is a family `Inside`: second k of the window is exactly inside where `Inside k` holds.
use Rattle.std.specs.Prelude.{ℕ, ◌+◌, ◌<◌, ◌≡◌, List, [], ◌∷◌, Bool, true, false, ◌&&◌, ◌⊎◌, leb, length}
use Rattle.contacts.specs.declared.entries.Entry.{Entry}
use Rattle.contacts.specs.declared.entries.Entry.TheVariants.{Enter, Leave, Graze, Open}
use Rattle.contacts.specs.Entries.{State, sure, unsure, state_at, from, to}

-- "Exactly inside: that distance is less than that L; exactly outside: any other."
abbrev pub Outside : (ℕ → Type 0) → ℕ → Type 0
Outside Inside k = Inside k → ⊥

-- what a state says of its second's exact answer: a sure one says it, an unsure one nothing
abbrev pub Says : State → (ℕ → Type 0) → ℕ → Type 0
Says (sure true) Inside k = Inside k
Says (sure false) Inside k = Outside Inside k
Says unsure Inside k = Unit

-- every sure state of the window is right
abbrev pub Agrees : (ℕ → Type 0) → List ℕ → Type 0
Agrees Inside s = (k : ℕ) → k < length s → Says (state_at s k) Inside k

-- "A change is two neighbouring seconds of the window, one exactly inside and one exactly outside in a phase":
-- the seconds k and k + 1
abbrev pub Change : (ℕ → Type 0) → ℕ → Type 0
Change Inside k = (Inside k × Outside Inside (k + 1)) ⊎ (Outside Inside k × Inside (k + 1))

-- "It lies in an entry if both seconds are in from..to": the seconds k and k + 1
abbrev pub lies_in : ℕ → Entry → Bool
lies_in k e = leb (from e) k && leb (k + 1) (to e)

-- in how many entries of a list they lie
abbrev pub once : Bool → ℕ
once true = 1
once false = 0

abbrev pub how_many : ℕ → List Entry → ℕ
how_many k [] = 0
how_many k (e ∷ es) = once (lies_in k e) + how_many k es

-- "Each enter runs from a second exactly outside to one exactly inside, each leave the other way";
-- "A graze or open entry claims no change, though changes may lie in it."
abbrev pub ExactEnds : (ℕ → Type 0) → Entry → Type 0
ExactEnds Inside (Enter f t) = Outside Inside f × Inside t
ExactEnds Inside (Leave f t) = Inside f × Outside Inside t
ExactEnds Inside (Graze f t) = Unit
ExactEnds Inside (Open f t) = Unit

-- the last enter or leave so far
pub data Turn : Type 0 where
  neither : Turn
  entered : Turn
  left : Turn

-- "Enters and leaves of a phase alternate if no two of one kind follow each other by time, grazes and opens passed
-- over": after the given turn
abbrev pub Alternate : Turn → List Entry → Type 0
Alternate t [] = Unit
Alternate t (Enter from to ∷ es) = (t ≡ entered → ⊥) × Alternate entered es
Alternate t (Leave from to ∷ es) = (t ≡ left → ⊥) × Alternate left es
Alternate t (Graze from to ∷ es) = Alternate t es
Alternate t (Open from to ∷ es) = Alternate t es
