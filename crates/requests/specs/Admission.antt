-- The buffer for table S: what a request is refused for before its sheet, and what the buffer holds afterwards.
-- Document 02, wish 8. Definitions only.
use Rattle.std.specs.Prelude.{cond, List, ℕ, leb, length, Result, Ok, Err}
use Rattle.sheet_types.specs.declared.refusals.Refusal.{Refusal}
use Rattle.sheet_types.specs.Refusals.{refusal, andThen}
use Rattle.sine_table.specs.Room.{filled}
use Rattle.requests.specs.declared.Occultation.{Occultation}
use Rattle.requests.specs.Requests.{checked}

-- "4 with place 901 where the lent room is shorter"
unfoldable pub room_checked : List ℕ → Result Unit Refusal
room_checked room = cond (leb 901 (length room)) (Ok tt) (Err (refusal 4 901))

-- "just ahead of the sheet's 4": after 1, 2, 13, 3
unfoldable pub admitted : Occultation → List ℕ → Result Unit Refusal
admitted o room = andThen (checked o) (room_checked room)

-- "each request fills 901 numbers of lent room .. once only the sheet's 4 can still refuse", "which alone leaves this
-- room filled"
abbrev pub sines_after : Result Unit Refusal → List ℕ → List ℕ
sines_after (Ok tt) room = filled room
sines_after (Err r) room = room
