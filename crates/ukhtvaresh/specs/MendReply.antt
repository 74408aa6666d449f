-- What a caller from outside gets of a mended file: the number of the refusal, 0 for none; and beside it how many
-- bytes each buffer has, or the refusal's place and 0.
use Rattle.std.specs.Prelude.{List, ℕ, length, Result, Ok, Err}
use Rattle.sheet_types.specs.declared.refusals.Refusal.{Refusal}
use Rattle.year_file.specs.Walk.{kept, notes}
use Rattle.year_file.specs.Mending.{answer_to, room_after}
use Rattle.ukhtvaresh.specs.declared.replies.MendReply.{MendReply}

-- the answer to a file with two buffers, and the buffers afterwards
abbrev pub mend_given : List ℕ → List ℕ → List ℕ → Result (ℕ × ℕ) Refusal
mend_given file sheets dropped = answer_to (length sheets) (length dropped) file

abbrev pub sheets_after : List ℕ → List ℕ → List ℕ → List ℕ
sheets_after file sheets dropped = room_after (mend_given file sheets dropped) (kept file) sheets

abbrev pub dropped_after : List ℕ → List ℕ → List ℕ → List ℕ
dropped_after file sheets dropped = room_after (mend_given file sheets dropped) (notes file) dropped

abbrev pub mend_reply : Result (ℕ × ℕ) Refusal → MendReply
mend_reply (Ok (k, n)) = record { number = 0; kept = k; noted = n }
mend_reply (Err r) = record { number = r.number; kept = r.place; noted = 0 }
