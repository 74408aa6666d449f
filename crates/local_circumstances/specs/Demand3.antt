-- Demand 3, in the customer's words, with "within the guard plus 13" for 29, as document 02, wish 9, says:
--   "Take any elements, station and window within the limits. From the same sines, cosines and station place, decide
--   for each whole second of the window, with no rounding at all, whether the station is inside the penumbra. Where
--   our program says inside or outside, that is the exact answer. It says unsure only where the exact distance lies"
--   "within the guard plus 13" units "of the cone's edge. In the sheet, whose entries are those that document 01
--   makes from our program's answers, each change of the exact answer from one second of the window to the next lies
--   in exactly one entry of the penumbra. Each enter runs from a second exactly outside to one exactly inside, each
--   leave the other way, so neither is given where no change is. Enters and leaves alternate. The same holds for the
--   central phase, with its own exact answer and its own entries."
-- Wish 7: "demand 3's statement" holds "for both shadows, for a star with its one phase in place of penumbra and
-- central and the radius as the exact L". It is one claim about a course, every second of its window, and the entries
-- in the bytes written for it. Definitions only.
use Rattle.std.specs.Prelude.{◌≡◌, List, [], ◌∷◌, ◌++◌, ℕ, ◌+◌, ℤ}
use Rattle.sheet_types.specs.declared.phases.Phase.{Phase}
use Rattle.sheet_types.specs.Phases.{same, Listed}
use Rattle.sheet_types.specs.States.{SaidRightly}
use Rattle.requests.specs.Windows.{InWindow}
use Rattle.contacts.specs.declared.entries.Entry as Contact
use Rattle.contacts.specs.declared.entries.Entry.TheVariants as C
use Rattle.contacts.specs.Entries.{if-so, All}
use Rattle.contacts.specs.Exact.{Change, how_many, ExactEnds, neither, Alternate}
use Rattle.sheet_format.specs.declared.kinds.Kind.{Kind}
use Rattle.sheet_format.specs.declared.kinds.Kind.TheVariants as K
use Rattle.sheet_format.specs.declared.kinds.Entry.{Entry}
use Rattle.sheet_format.specs.StoredSeconds.{second_of}
use Rattle.sheet_codec.specs.Sheets.{sheet, read_sheet}
use Rattle.local_circumstances.specs.Courses.{Course, sheetOf}

-- "decide for each whole second of the window, with no rounding at all, whether the station is inside": the exact
-- answer of a phase at second τ, and whether the exact distance lies within n units of the cone's edge there
pub record ExactAnswers : Type 1 where
  pub Inside : Phase → ℤ → Type 0
  pub WithinUnits : ℕ → Phase → ℤ → Type 0

-- ---- the entries of a phase in a sheet, its seconds as they are stored

abbrev pub in_kind : Phase → Kind → ℕ → ℕ → List Contact.Entry
in_kind φ (K.Enter ψ) f t = if-so (same φ ψ) (C.Enter f t)
in_kind φ (K.Leave ψ) f t = if-so (same φ ψ) (C.Leave f t)
in_kind φ (K.Graze ψ) f t = if-so (same φ ψ) (C.Graze f t)
in_kind φ (K.Open ψ) f t = if-so (same φ ψ) (C.Open f t)
in_kind φ K.Head f t = []
in_kind φ K.Closest f t = []
in_kind φ K.Share f t = []
in_kind φ K.End f t = []

abbrev pub entries_in : Phase → List Entry → List Contact.Entry
entries_in φ [] = []
entries_in φ (e ∷ es) = in_kind φ e.kind e.a e.b ++ entries_in φ es

-- ---- the claim

module _ (c : Course) (x : ExactAnswers) where
  -- "Where our program says inside or outside, that is the exact answer. It says unsure only where the exact distance
  -- lies" "within the guard plus 13" units "of the cone's edge."
  abbrev pub EachSecond : Type 0
  EachSecond = (φ : Phase) → Listed φ c.phases → (τ : ℤ) → InWindow c.window τ
      → SaidRightly (c.state φ τ) (x.Inside φ τ) (x.WithinUnits (c.guard + 13) φ τ)

  -- exactly inside at the second that is stored as k
  abbrev pub InsideAt : Phase → ℕ → Type 0
  InsideAt φ k = x.Inside φ (second_of k)

  -- of the buffer in which n bytes were written; the entries are those that a reader finds there
  pub record Demand3 (n : ℕ) (buffer : List ℕ) : Type 0 where
    pub seconds : EachSecond
    pub found : List Entry
    pub read : read_sheet buffer ≡ sheet found n
    -- "whose entries are those that document 01 makes from our program's answers"
    pub made : found ≡ sheetOf c
    -- "each change of the exact answer from one second of the window to the next lies in exactly one entry of the
    -- penumbra"
    pub changes : (φ : Phase) → Listed φ c.phases → (k : ℕ) → InWindow c.window (second_of k) → InWindow c.window (second_of (k + 1))
        → Change (InsideAt φ) k → how_many k (entries_in φ found) ≡ 1
    -- "Each enter runs from a second exactly outside to one exactly inside, each leave the other way, so neither is
    -- given where no change is."
    pub ends : (φ : Phase) → Listed φ c.phases → All (ExactEnds (InsideAt φ)) (entries_in φ found)
    -- "Enters and leaves alternate."
    pub alternate : (φ : Phase) → Listed φ c.phases → Alternate neither (entries_in φ found)
