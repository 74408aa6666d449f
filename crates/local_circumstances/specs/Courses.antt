-- A course: what is said of a station at each second of a window, in each of its phases; and its sheet. Definitions
-- only.
use Rattle.std.specs.Prelude.{Bool, cond, List, [], ◌∷◌, ◌++◌, map, ℕ, ℤ}
use Rattle.sheet_types.specs.declared.phases.Phase.{Phase}
use Rattle.sheet_types.specs.States.{State, code}
use Rattle.requests.specs.declared.windows.Window.{Window}
use Rattle.requests.specs.Windows.{nth_second, each_second}
use Rattle.contacts.specs.declared.entries.Entry as Contact
use Rattle.contacts.specs.declared.entries.Entry.TheVariants as C
use Rattle.contacts.specs.Entries.{entries}
use Rattle.sheet_format.specs.declared.kinds.Entry.{Entry}
use Rattle.sheet_format.specs.Entries.{head, enter, leave, graze, opened, closest, share, end}
use Rattle.sheet_format.specs.StoredSeconds.{stored}

pub record Course : Type 0 where
  -- the station's number, 1 to 999
  pub station : ℕ
  pub window : Window
  -- how near to a cone's edge nothing is said, 16 to 1,000 units
  pub guard : ℕ
  -- the phases, in the order of the sheet
  pub phases : List Phase
  -- what is said of a phase at second τ
  pub state : Phase → ℤ → State
  -- the direction at second τ
  pub direction : ℤ → ℕ
  -- "*Closest* is the second of smallest M, the earliest of equals", counted from the window's first
  pub closest : ℕ
  -- the magnitude at second τ; of a star 0
  pub magnitude : ℤ → ℕ
  -- whether the covered share is asked for; the share at second τ
  pub sharing : Bool
  pub share : ℤ → ℕ

module _ (c : Course) where
  -- the k-th second of the window
  abbrev pub second : ℕ → ℤ
  second k = nth_second c.window k

  -- the states of a phase, a byte a second: 0 outside, 1 inside, 2 unsure
  unfoldable pub states_of : Phase → List ℕ
  states_of φ = each_second c.window (λ τ. code (c.state φ τ))

  -- "*enter*, from the earlier to the later, direction at the later; .. *leave*, from, to, direction at the earlier;
  -- .. *graze*, from, to": an entry of a phase, whose seconds are counted from the window's first, as it stands in the
  -- sheet
  abbrev pub entry_of : Phase → Contact.Entry → Entry
  entry_of φ (C.Enter f t) = enter φ (stored (second f)) (stored (second t)) (c.direction (second t))
  entry_of φ (C.Leave f t) = leave φ (stored (second f)) (stored (second t)) (c.direction (second f))
  entry_of φ (C.Graze f t) = graze φ (stored (second f)) (stored (second t))
  entry_of φ (C.Open f t) = opened φ (stored (second f)) (stored (second t))

  -- the entries of a phase, by time
  unfoldable pub phaseEntries : Phase → List Entry
  phaseEntries φ = map (entry_of φ) (entries (states_of φ))

  -- those of some phases, one after the other
  abbrev pub entriesOf : List Phase → List Entry
  entriesOf [] = []
  entriesOf (φ ∷ φs) = phaseEntries φ ++ entriesOf φs

  -- document 02, wish 9: "The request and, at its end, the head record gain a guard"
  unfoldable pub headEntry : Entry
  headEntry = head c.station (stored c.window.first) (stored c.window.last) c.guard

  -- "*Closest* .. with its magnitude"
  unfoldable pub closestEntry : Entry
  closestEntry = closest (stored (second c.closest)) (c.magnitude (second c.closest))

  -- document 02, wish 4: "the covered share of the disc at the closest second"
  unfoldable pub shareEntry : Entry
  shareEntry = share (c.share (second c.closest))

  -- document 02, wish 4: "A new kind 31 .. stands once, directly after closest, where the request asks for it"
  unfoldable pub closingEntries : List Entry
  closingEntries = closestEntry ∷ cond c.sharing (shareEntry ∷ end ∷ []) (end ∷ [])

  -- "Order: head, penumbra by time, central by time, closest, end"; document 02, wish 7: "The reader's order has the
  -- star family in place of penumbra and central."
  unfoldable pub sheetOf : List Entry
  sheetOf = headEntry ∷ (entriesOf c.phases ++ closingEntries)
