-- What the theorems of `Mended` speak of.
use Rattle.std.specs.Prelude.{ℕ, zero, suc, ◌+◌, ◌≤◌, ◌<◌, ◌≡◌, List, [], ◌∷◌, ◌++◌, length, drop}
use Rattle.sheet_format.specs.declared.kinds.Entry.{Entry}
use Rattle.big_endian.specs.Numbers.{eight_at, Bytes}
use Rattle.sheet_codec.specs.Sheets.{sheet, read_sheet}
use Rattle.sheet_codec.specs.RoundTrip.{Reads}
use Rattle.year_file.specs.Walk.{Step, keep, lose, steps, Stretch}

-- how many bytes the stretches say were dropped
unfoldable pub lost : List Stretch → ℕ
lost [] = 0
lost (t ∷ ts) = t.long + lost ts

-- the stretches of n notes, 16 bytes each
unfoldable pub read_notes : ℕ → List ℕ → List Stretch
read_notes zero s = []
read_notes (suc n) s = record { from = eight_at s 0; long = eight_at s 8 } ∷ read_notes n (drop 16 s)

-- each stretch has a byte at least, begins at `low` or later and ends by `end`, and a byte at least lies between it
-- and the next
unfoldable pub Apart : ℕ → List Stretch → ℕ → Type 0
Apart low [] end = Unit
Apart low (t ∷ ts) end = (low ≤ t.from) × (0 < t.long) × (t.from + t.long ≤ end) × Apart (t.from + t.long + 1) ts end

-- the n places from a place on
unfoldable pub places_from : ℕ → ℕ → List ℕ
places_from from zero = []
places_from from (suc n) = from ∷ places_from (from + 1) n

-- the places of the stretches
unfoldable pub places_of : List Stretch → List ℕ
places_of [] = []
places_of (t ∷ ts) = places_from t.from t.long ++ places_of ts

-- the places at which steps from the place `at` on drop a byte
unfoldable pub dropped_at : ℕ → List Step → List ℕ
dropped_at at [] = []
dropped_at at (keep x ∷ ts) = dropped_at (at + length x) ts
dropped_at at (lose ∷ ts) = at ∷ dropped_at (at + 1) ts

-- how many bytes the steps take
unfoldable pub spanned : List Step → ℕ
spanned [] = 0
spanned (keep x ∷ ts) = length x + spanned ts
spanned (lose ∷ ts) = 1 + spanned ts

-- lists of bytes, one behind the other
unfoldable pub joined : List (List ℕ) → List ℕ
joined [] = []
joined (x ∷ xs) = x ++ joined xs

-- each is a sheet that the reader accepts
unfoldable pub AllSheets : List (List ℕ) → Type 0
AllSheets [] = Unit
AllSheets (x ∷ xs) = Bytes x × Reads x × AllSheets xs

-- the walk arrives at a place: some steps lead there, and it goes on from there
pub record Arrives (file : List ℕ) (before : List Step) (a : ℕ) : Type 0 where
  pub took : spanned before ≡ a
  pub goes : steps file ≡ before ++ steps (drop a file)

-- a place at which the walk arrives, or one inside a sheet that stands where it arrived
pub data Met (file : List ℕ) (i : ℕ) : Type 0 where
  arrived : (before : List Step) → Arrives file before i → Met file i
  inside : (before : List Step) (a : ℕ) (es : List Entry) (n : ℕ) → Arrives file before a
      → read_sheet (drop a file) ≡ sheet es n → a < i → i < a + n → Met file i
