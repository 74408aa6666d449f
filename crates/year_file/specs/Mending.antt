-- Mending the year file (document 02, wish 11): the answer, and the buffers afterwards. The walk, what is kept and
-- what is noted: Walk.
use Rattle.std.specs.Prelude.{ℕ, List, ◌++◌, cond, leb, length, drop, Result, Ok, Err}
use Rattle.sheet_types.specs.declared.refusals.Refusal.{Refusal}
use Rattle.sheet_types.specs.Refusals.{refusal}
use Rattle.year_file.specs.Walk.{kept, notes}

-- "4 with the length needed where a room is short, sheets' room first"; the buffers have a and b bytes
abbrev pub answer_for : ℕ → ℕ → List ℕ → List ℕ → Result (ℕ × ℕ) Refusal
answer_for a b sheets dropped =
    cond (leb (length sheets) a)
    (cond (leb (length dropped) b) (Ok (length sheets, length dropped)) (Err (refusal 4 (length dropped))))
    (Err (refusal 4 (length sheets)))

unfoldable pub answer_to : ℕ → ℕ → List ℕ → Result (ℕ × ℕ) Refusal
answer_to a b file = answer_for a b (kept file) (notes file)

-- "nothing written" after a refusal; after success the bytes past what was written stay
abbrev pub room_after : Result (ℕ × ℕ) Refusal → List ℕ → List ℕ → List ℕ
room_after (Ok (k, n)) text room = text ++ drop (length text) room
room_after (Err r) text room = room
