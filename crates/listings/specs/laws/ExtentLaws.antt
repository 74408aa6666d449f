-- An answer put, case by case.
use Rattle.std.specs.Prelude.{ℕ, ◌≡◌, List, Result, Ok, Err}
use Rattle.sheet_types.specs.declared.refusals.Refusal.{Refusal}
use Rattle.decimal_text.specs.Texts.{letters, Put}
use Rattle.listing_lines.specs.Lines.{numbered, refusal_text}
use Rattle.listings.specs.Extents.{extent_text}

module _ (x : Result (ℕ × ℕ) Refusal) (old : List ℕ) (at : ℕ) (new : List ℕ) (r : ℕ) where
  pub put-sheet : (entries n : ℕ) → x ≡ Ok (entries, n) → Put old at (numbered (letters "sheet ") entries n) new r → Put old at (extent_text x) new r
  unfolding extent_text
  put-sheet entries n q p = rw q p

  pub put-refused-extent : (f : Refusal) → x ≡ Err f → Put old at (refusal_text f.number f.place) new r → Put old at (extent_text x) new r
  unfolding extent_text
  put-refused-extent f q p = rw q p
