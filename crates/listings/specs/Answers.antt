-- A text stored in a caller-provided buffer: the answer, and the buffer afterwards.
use Rattle.std.specs.Prelude.{ℕ, List, ◌++◌, cond, leb, length, drop, Result, Err, Ok}
use Rattle.sheet_types.specs.declared.refusals.Refusal.{Refusal}
use Rattle.sheet_types.specs.Refusals.{refusal}
use Rattle.decimal_text.specs.Texts.{capped}

-- a text, or a refusal in its place
pub data Told : Type 0 where
  text : List ℕ → Told
  withheld : Refusal → Told

-- the refusal; or "4 | sheet longer than the buffer | the length it needs", said of a text and its buffer of k bytes;
-- or the text's length
unfoldable pub answered : ℕ → Told → Result ℕ Refusal
answered k (withheld r) = Err r
answered k (text t) = cond (leb (length t) k) (Ok (length t)) (Err (refusal 4 (capped (length t))))

-- "After any refusal the buffer holds its old bytes; after success the bytes past the sheet do": past the text
unfoldable pub room_with : Told → List ℕ → List ℕ
room_with (withheld r) room = room
room_with (text t) room = cond (leb (length t) (length room)) (t ++ drop (length t) room) room
