-- The first enter of the penumbra on a station's sheet. Definitions only. Document 02, wish 10: "the station whose
-- first *enter* penumbra has the smallest "to"", "each enter is that of the sheet the station gets alone, with room
-- enough".
use Rattle.std.specs.Prelude.{Bool, true, false, List, [], ◌∷◌, ℕ}
use Rattle.sheet_types.specs.declared.phases.Phase.TheVariants.{Penumbra}
use Rattle.requests.specs.declared.Occultation.{Occultation}
use Rattle.contacts.specs.declared.entries.Entry.{Entry}
use Rattle.contacts.specs.declared.entries.Entry.TheVariants.{Enter, Leave, Graze, Open}
use Rattle.local_circumstances.specs.Courses.{sheetOf}
use Rattle.local_circumstances.specs.Demand3.{entries_in}
use Rattle.local_circumstances.specs.Course.{course_of}

-- after every second that a window may have, as it is stored
abbrev pub never : ℕ
never = 21601

-- the "to" of the first enter among entries by time, or never
abbrev pub first_enter : List Entry → ℕ
first_enter [] = never
first_enter (Enter from to ∷ es) = to
first_enter (Leave from to ∷ es) = first_enter es
first_enter (Graze from to ∷ es) = first_enter es
first_enter (Open from to ∷ es) = first_enter es

abbrev pub is_enter : Entry → Bool
is_enter (Enter from to) = true
is_enter (Leave from to) = false
is_enter (Graze from to) = false
is_enter (Open from to) = false

-- that of the penumbra's entries on the sheet (local_circumstances, `sheetOf` and `entries_in`), as it is stored
unfoldable pub firstTo : Occultation → ℕ
firstTo o = first_enter (entries_in Penumbra (sheetOf (course_of o)))
