-- The entries of a phase, from the state of each second of a window: document 01, "Entries of a sheet".
-- Definitions only. Seconds are counted from the window's first, which is 0.
-- Enter, leave, graze, open, sure and unsure are the paper's words.
use Rattle.std.specs.Prelude.{ℕ, zero, suc, ◌+◌, ◌-◌, List, [], ◌∷◌, ◌++◌, Bool, true, false, ltb, get_or}
use Rattle.contacts.specs.declared.entries.Entry.{Entry}
use Rattle.contacts.specs.declared.entries.Entry.TheVariants.{Enter, Leave, Graze, Open}

-- "*inside* if ..; *outside* if ..; otherwise *unsure*." The first two are sure, and their side is true for inside.
pub data State : Type 0 where
  sure : Bool → State
  unsure : State

-- a state as a byte: 0 outside, 1 inside, any other unsure
abbrev pub state : ℕ → State
state zero = sure false
state (suc zero) = sure true
state (suc (suc n)) = unsure

-- the side that a sure second's byte says
abbrev pub side : ℕ → Bool
side zero = false
side (suc n) = true

-- the state of second k
abbrev pub state_at : List ℕ → ℕ → State
state_at s k = state (get_or s k 0)

-- an entry where a test holds, and none where it does not
abbrev pub if-so : Bool → Entry → List Entry
if-so true e = e ∷ []
if-so false e = []

-- whether a second lies between the two
unfoldable pub some_between : ℕ → ℕ → Bool
some_between from to = ltb (from + 1) to

-- "Between two sure seconds that have only unsure seconds, or none, between them:
--  outside then inside: *enter*, from the earlier to the later ..;
--  inside then outside: *leave*, from, to ..;
--  one state on both sides with at least one unsure between: *graze*, from, to."
abbrev pub between : Bool → Bool → ℕ → ℕ → List Entry
between false true from to = Enter from to ∷ []
between true false from to = Leave from to ∷ []
between false false from to = if-so (some_between from to) (Graze from to)
between true true from to = if-so (some_between from to) (Graze from to)

-- The walk goes over the seconds and keeps the last sure one, with its side; or none, where none was yet.
pub data Last : Type 0 where
  none : Last
  last : Bool → ℕ → Last

-- the last sure second, once second t is passed
abbrev pub passed : Last → State → ℕ → Last
passed l unsure t = l
passed l (sure side) t = last side t

-- What second t adds: a sure one the entry between the last sure second and it; the first sure one, an open entry.
-- "Unsure seconds at an end of the window make one *open* entry, from the window's end to the nearest sure second, ..
abbrev pub at_second : Last → State → ℕ → List Entry
at_second l unsure t = []
at_second none (sure side) t = if-so (ltb 0 t) (Open 0 t)
at_second (last before from) (sure side) t = between before side from t

-- .. or over the whole window if none is sure." What the end of a window of n seconds adds.
abbrev pub at_end : Last → ℕ → List Entry
at_end none n = if-so (ltb 0 n) (Open 0 (n - 1))
at_end (last before from) n = if-so (some_between from n) (Open from (n - 1))

-- the entries that second i and those after it add, where their states are the list
abbrev pub walk : Last → ℕ → List ℕ → List Entry
walk l i [] = at_end l i
walk l i (x ∷ s) = at_second l (state x) i ++ walk (passed l (state x) i) (i + 1) s

-- the entries of a window
abbrev pub entries : List ℕ → List Entry
entries s = walk none 0 s

abbrev pub from : Entry → ℕ
from (Enter f t) = f
from (Leave f t) = f
from (Graze f t) = f
from (Open f t) = f

abbrev pub to : Entry → ℕ
to (Enter f t) = t
to (Leave f t) = t
to (Graze f t) = t
to (Open f t) = t

-- each entry of a list
abbrev pub All : (Entry → Type 0) → List Entry → Type 0
All P [] = Unit
All P (e ∷ es) = P e × All P es
