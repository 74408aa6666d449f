-- The first enter of the sheet, by the entries of the penumbra, counted from the window's first second.
--   first-to-is               it is the first enter of those
--   enter-first, enter-later  one entry more
use Rattle.std.specs.Prelude.{◌≡◌, refl, true, false, List, ◌∷◌, map, ℕ, ◌+◌}
use Rattle.std.proofs.Common.{ap, inl}
use Rattle.std.proofs.lemmas.Bool.{false≢true}
use Rattle.sheet_types.specs.declared.phases.Phase.TheVariants.{Penumbra}
use Rattle.sheet_types.specs.Phases.{Listed}
use Rattle.requests.specs.declared.Request.{Request}
use Rattle.requests.specs.Requests.{of_eclipse}
use Rattle.requests.specs.RequestLaws.{InLimits}
use Rattle.seconds.specs.Seconds as Seconds
use Rattle.contacts.specs.declared.entries.Entry.{Entry}
use Rattle.contacts.specs.declared.entries.Entry.TheVariants.{Enter, Leave, Graze, Open}
use Rattle.contacts.specs.Entries.{to, entries}
use Rattle.contacts.specs.laws.Shifted.{shifted}
use Rattle.sheet_format.specs.StoredSeconds.{stored}
use Rattle.local_circumstances.specs.Courses.{states_of}
use Rattle.local_circumstances.proofs.laws.Demand3Laws.{entries-in-sheet}
use Rattle.local_circumstances.specs.Course.{course_of}
use Rattle.local_circumstances.specs.laws.CourseSound.{sound}
use Rattle.networks.specs.Enters.{is_enter, first_enter, firstTo}

pub first-to-is : (q : Request) (h : InLimits (of_eclipse q))
    → firstTo (of_eclipse q) ≡ first_enter (map (shifted (stored q.window.first)) (entries (Seconds.states_of (of_eclipse q) Penumbra)))
unfolding firstTo states_of
first-to-is q h = ap first_enter (entries-in-sheet (course_of (of_eclipse q)) (sound (of_eclipse q) h) Penumbra listed)
  where
    listed : Listed Penumbra (course_of (of_eclipse q)).phases
    listed = inl refl

module _ (b : ℕ) where
  pub enter-first : (e : Entry) (es : List Entry) → is_enter e ≡ true → first_enter (map (shifted b) (e ∷ es)) ≡ b + to e
  enter-first (Enter f t) es h = refl
  enter-first (Leave f t) es h = absurd (false≢true h)
  enter-first (Graze f t) es h = absurd (false≢true h)
  enter-first (Open f t) es h = absurd (false≢true h)

  pub enter-later : (e : Entry) (es : List Entry) → is_enter e ≡ false → first_enter (map (shifted b) (e ∷ es)) ≡ first_enter (map (shifted b) es)
  enter-later (Enter f t) es h = absurd (false≢true (let z : false ≡ true = cc in z))
  enter-later (Leave f t) es h = refl
  enter-later (Graze f t) es h = refl
  enter-later (Open f t) es h = refl
