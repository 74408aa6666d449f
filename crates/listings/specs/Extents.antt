-- What a reader or a writer of sheets answers, in the programs that print it: how many entries and bytes, or the
-- refusal.
use Rattle.std.specs.Prelude.{ℕ, List, Result, Ok, Err}
use Rattle.sheet_types.specs.declared.refusals.Refusal.{Refusal}
use Rattle.decimal_text.specs.Texts.{letters}
use Rattle.listing_lines.specs.Lines.{numbered, refusal_text}

unfoldable pub extent_text : Result (ℕ × ℕ) Refusal → List ℕ
extent_text (Ok (entries, n)) = numbered (letters "sheet ") entries n
extent_text (Err r) = refusal_text r.number r.place
