-- Sheets alike but for directions have the same length; courses that differ in directions only have such sheets.
use Rattle.std.specs.Prelude.{◌≡◌, refl, ℕ, ◌+◌, ℤ, length}
use Rattle.std.proofs.Common.{sym, ap₂, ◌∙◌}
use Rattle.std.proofs.Math.Path.{ap}
use mathlib.Core.List.{List, [], ◌∷◌, ◌++◌, map, map-append}
use Rattle.sheet_types.specs.declared.phases.Phase.{Phase}
use Rattle.contacts.specs.declared.entries.Entry as Contact
use Rattle.contacts.specs.declared.entries.Entry.TheVariants as C
use Rattle.contacts.specs.Entries.{entries}
use Rattle.sheet_format.specs.declared.kinds.Kind.{Kind}
use Rattle.sheet_format.specs.declared.kinds.Kind.TheVariants as K
use Rattle.sheet_format.specs.declared.kinds.Entry.{Entry}
use Rattle.sheet_format.specs.Kinds.{size_of}
use Rattle.sheet_format.specs.RecordEntries.{bytes_of}
use Rattle.sheet_format.specs.laws.EntryLaws.{length-bytes_cons}
use Rattle.local_circumstances.specs.Courses.{Course, states_of, entry_of, phaseEntries, entriesOf, headEntry, closestEntry, shareEntry, closingEntries, sheetOf}
use Rattle.local_circumstances.specs.Directions.{directionless, without_direction, AlikeButDirections}

-- ---- so the same length in bytes
keeps_kind : (k : Kind) (e : Entry) → e.kind ≡ k → (directionless k e).kind ≡ k
keeps_kind (K.Enter φ) e h = refl
keeps_kind (K.Leave φ) e h = refl
keeps_kind K.Head e h = h
keeps_kind (K.Graze φ) e h = h
keeps_kind (K.Open φ) e h = h
keeps_kind K.Closest e h = h
keeps_kind K.Share e h = h
keeps_kind K.End e h = h

without_length : (es : List Entry) → length (bytes_of (map without_direction es)) ≡ length (bytes_of es)
without_length [] = refl
without_length (e ∷ es) =
    length-bytes_cons (without_direction e) (map without_direction es)
    ∙ ap₂ (λ (k : Kind) (n : ℕ). size_of k + n) (keeps_kind e.kind e refl) (without_length es)
    ∙ sym (length-bytes_cons e es)

pub alike-length : (es fs : List Entry) → AlikeButDirections es fs → length (bytes_of es) ≡ length (bytes_of fs)
alike-length es fs h = sym (without_length es) ∙ ap (λ (l : List Entry). length (bytes_of l)) h ∙ without_length fs

-- ---- a course with other directions
abbrev pub redirected : Course → (ℤ → ℕ) → Course
redirected c f =
    record {
      station = c.station;
      window = c.window;
      guard = c.guard;
      phases = c.phases;
      state = c.state;
      direction = f;
      closest = c.closest;
      magnitude = c.magnitude;
      sharing = c.sharing;
      share = c.share;
    }

module _ (c : Course) (f : ℤ → ℕ) where
  abbrev c' : Course
  c' = redirected c f

  entry-alike : (φ : Phase) (e : Contact.Entry) → without_direction (entry_of c' φ e) ≡ without_direction (entry_of c φ e)
  entry-alike φ (C.Enter a b) = refl
  entry-alike φ (C.Leave a b) = refl
  entry-alike φ (C.Graze a b) = refl
  entry-alike φ (C.Open a b) = refl

  entries-alike : (φ : Phase) (es : List Contact.Entry) → AlikeButDirections (map (entry_of c' φ) es) (map (entry_of c φ) es)
  entries-alike φ [] = refl
  entries-alike φ (e ∷ es) = ap₂ (λ (x : Entry) (l : List Entry). x ∷ l) (entry-alike φ e) (entries-alike φ es)

  phase-alike : (φ : Phase) → AlikeButDirections (phaseEntries c' φ) (phaseEntries c φ)
  unfolding phaseEntries states_of
  phase-alike φ = entries-alike φ (entries (states_of c φ))

  append-alike : (es fs gs hs : List Entry) → AlikeButDirections es fs → AlikeButDirections gs hs → AlikeButDirections (es ++ gs) (fs ++ hs)
  append-alike es fs gs hs a b =
      map-append without_direction es gs ∙ ap₂ (λ (x y : List Entry). x ++ y) a b ∙ sym (map-append without_direction fs hs)

  phases-alike : (φs : List Phase) → AlikeButDirections (entriesOf c' φs) (entriesOf c φs)
  phases-alike [] = refl
  phases-alike (φ ∷ φs) = append-alike (phaseEntries c' φ) (phaseEntries c φ) (entriesOf c' φs) (entriesOf c φs) (phase-alike φ) (phases-alike φs)

  pub sheet-alike : AlikeButDirections (sheetOf c') (sheetOf c)
  unfolding sheetOf headEntry closingEntries closestEntry shareEntry
  sheet-alike =
      let tail = closingEntries c in
      ap (λ (l : List Entry). headEntry c ∷ l)
      (append-alike (entriesOf c' c.phases) (entriesOf c c.phases) tail tail (phases-alike c.phases) refl)
