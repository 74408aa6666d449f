-- The entries that document 01 calls for, in its own words, with no walk. Definitions only.
use Rattle.std.specs.Prelude.{ℕ, ◌+◌, ◌≤◌, ◌<◌, ◌≡◌, List, Bool, true, false, ◌⊎◌, length}
use Rattle.contacts.specs.declared.entries.Entry.{Entry}
use Rattle.contacts.specs.declared.entries.Entry.TheVariants.{Enter, Leave, Graze, Open}
use Rattle.contacts.specs.Entries.{sure, unsure, state_at}

-- the seconds from f on and before t are unsure
abbrev pub OnlyUnsure : List ℕ → ℕ → ℕ → Type 0
OnlyUnsure s f t = (k : ℕ) → f ≤ k → k < t → state_at s k ≡ unsure

abbrev pub Sure : List ℕ → ℕ → Type 0
Sure s k = (b : Bool) × (state_at s k ≡ sure b)

-- "two .. seconds that have only unsure seconds, or none, between them", of the window
abbrev pub Pair : List ℕ → ℕ → ℕ → Type 0
Pair s f t = (f < t) × (t < length s) × OnlyUnsure s (f + 1) t

-- "Unsure seconds at an end of the window make one *open* entry, from the window's end to the nearest sure second,
--  or over the whole window if none is sure."
abbrev pub OpenAtStart : List ℕ → ℕ → ℕ → Type 0
OpenAtStart s f t = (f ≡ 0) × (0 < t) × (t < length s) × Sure s t × OnlyUnsure s 0 t

abbrev pub OpenAtEnd : List ℕ → ℕ → ℕ → Type 0
OpenAtEnd s f t = (f < t) × (t + 1 ≡ length s) × Sure s f × OnlyUnsure s (f + 1) (length s)

abbrev pub OpenWhole : List ℕ → ℕ → ℕ → Type 0
OpenWhole s f t = (f ≡ 0) × (t + 1 ≡ length s) × OnlyUnsure s 0 (length s)

-- "outside then inside: *enter*, from the earlier to the later ..; inside then outside: *leave*, from, to ..;
--  one state on both sides with at least one unsure between: *graze*, from, to."
abbrev pub CalledFor : List ℕ → Entry → Type 0
CalledFor s (Enter f t) = Pair s f t × (state_at s f ≡ sure false) × (state_at s t ≡ sure true)
CalledFor s (Leave f t) = Pair s f t × (state_at s f ≡ sure true) × (state_at s t ≡ sure false)
CalledFor s (Graze f t) = Pair s f t × (f + 1 < t) × ((b : Bool) × (state_at s f ≡ sure b) × (state_at s t ≡ sure b))
CalledFor s (Open f t) = OpenAtStart s f t ⊎ (OpenAtEnd s f t ⊎ OpenWhole s f t)
