-- Every enter and leave of the sheet of an occultation with a guard of 32 or more has its two hundredths
-- (`contacts-true`).
-- Why: an enter runs from a second that is said to be outside to one said to be inside (contacts, CalledFor), and these
-- are the states of the hundredths there (TrueBrackets).
use Rattle.std.specs.Prelude.{◌≡◌, refl, true, false, List, [], ◌∷◌, map, ℕ, ◌≤◌, ◌<◌, ℤ, pos, nat_abs, length, ◌≤ℤ◌, ◌<ℤ◌}
use Rattle.std.proofs.Common.{sym, ◌∙◌, arith}
use Rattle.std.proofs.Math.Path.{ap}
use Rattle.rounding.specs.Parts.{sum}
use Rattle.rounding.specs.laws.Order.{zs}
use Rattle.sheet_types.specs.declared.phases.Phase.{Phase}
use Rattle.sheet_types.specs.Phases.{Listed}
use Rattle.sheet_types.specs.States.{State, inside, outside, unsure, code}
use Rattle.requests.specs.Windows.{second_count}
use Rattle.requests.specs.WindowLaws.{second-size}
use Rattle.contacts.specs.declared.entries.Entry as Contact
use Rattle.contacts.specs.declared.entries.Entry.TheVariants as C
use Rattle.contacts.specs.Entries.{sure, state, entries, All}
use Rattle.contacts.specs.CalledFor.{CalledFor}
use Rattle.contacts.proofs.laws.CalledForLaws.{each_called_for}
use Rattle.contacts.specs.laws.Shifted.{shifted}
use Rattle.requests.specs.declared.Occultation.{Occultation}
use Rattle.requests.specs.RequestLaws.{InLimits}
use Rattle.seconds.specs.Seconds as Seconds
use Rattle.shadow.specs.Second as Second
use Rattle.station.specs.Place.{place_of}
use Rattle.local_circumstances.specs.Courses.{Course, second, states_of, sheetOf}
use Rattle.local_circumstances.specs.Demand3.{entries_in}
use Rattle.local_circumstances.proofs.laws.Demand3Laws.{entries-in-sheet}
use Rattle.local_circumstances.specs.Sound.{Sound}
use Rattle.local_circumstances.specs.laws.CourseLaws.{states_length, states-at, first, second_at}
use Rattle.local_circumstances.specs.Course.{course_of}
use Rattle.local_circumstances.specs.laws.CourseSound.{sound}
use Rattle.sky_accuracy.specs.TruePlace.{TrueC}
use Rattle.contact_times.proofs.laws.ContactLaws.{used-same}
use Rattle.sky_accuracy.proofs.laws.TrueBrackets.{state_of, enters, leaves}
use Rattle.sky_accuracy.specs.TrueContacts.{ContactTrue}

-- a sure byte says its state
outside_byte : (w : State) → state (code w) ≡ sure false → w ≡ outside
outside_byte outside e = refl
outside_byte inside e = let z : ◌≡◌ {A = ℕ} 0 1 = cc in absurd (omega arith)
outside_byte unsure e = let z : ◌≡◌ {A = ℕ} 0 1 = cc in absurd (omega arith)

inside_byte : (w : State) → state (code w) ≡ sure true → w ≡ inside
inside_byte inside e = refl
inside_byte outside e = let z : ◌≡◌ {A = ℕ} 0 1 = cc in absurd (omega arith)
inside_byte unsure e = let z : ◌≡◌ {A = ℕ} 0 1 = cc in absurd (omega arith)

all-shifted : (P Q : Contact.Entry → Type 0) (b : ℕ) → ((e : Contact.Entry) → P e → Q (shifted b e)) → (es : List Contact.Entry) → All P es → All Q (map (shifted b) es)
all-shifted P Q b h [] a = tt
all-shifted P Q b h (e ∷ es) a = (h e a.0, all-shifted P Q b h es a.1)

module _ (o : Occultation) (c : TrueC o.station.latitude) (i : InLimits o) (guard : pos 32 ≤ℤ o.guard) (φ : Phase) where
  abbrev k : Course
  k = course_of o

  s : Sound k
  s = sound o i

  -- of the window's seconds f and t
  module _ (f t : ℕ) (order : f < t) (last : t < length (states_of k φ)) where
    in_window : t < second_count o.window
    in_window = omega (arith, states_length k φ)

    f-size : nat_abs (second k f) ≤ 10_800
    f-size = second-size o.window s.window f (omega (arith, in_window))

    t-size : nat_abs (second k t) ≤ 10_800
    t-size = second-size o.window s.window t in_window

    later : second k f <ℤ second k t
    later = omega (arith, zs, (sum o.window.first (pos f)).is, (sum o.window.first (pos t)).is)

  -- the sheet's guard is 32 or more, so it is the one that the search uses
  said : (j : ℕ) → j < length (states_of k φ) → state_of o φ (second k j) ≡ k.state φ (second k j)
  unfolding Seconds.state_at
  said j h = ap (λ (g : ℤ). Second.state_at g o.body (place_of o.station) φ (second k j)) (used-same o.guard guard)

  entry-true : (e : Contact.Entry) → CalledFor (states_of k φ) e → ContactTrue o c φ (shifted (first k s) e)
  entry-true (C.Enter f t) d =
      let p = d.0 in
      let lf : f < length (states_of k φ) = omega (arith, p.0, p.1) in
      let bf = states-at k φ f (omega (arith, lf, states_length k φ)) in
      let bt = states-at k φ t (omega (arith, p.1, states_length k φ)) in
      rw (second_at k s f, second_at k s t)
      (enters o c i φ (second k f) (second k t) (f-size f t p.0 p.1) (t-size f t p.0 p.1) (later f t p.0 p.1)
      (said f lf ∙ outside_byte (k.state φ (second k f)) (ap state (sym bf) ∙ d.1))
      (said t p.1 ∙ inside_byte (k.state φ (second k t)) (ap state (sym bt) ∙ d.2)))
  entry-true (C.Leave f t) d =
      let p = d.0 in
      let lf : f < length (states_of k φ) = omega (arith, p.0, p.1) in
      let bf = states-at k φ f (omega (arith, lf, states_length k φ)) in
      let bt = states-at k φ t (omega (arith, p.1, states_length k φ)) in
      rw (second_at k s f, second_at k s t)
      (leaves o c i φ (second k f) (second k t) (f-size f t p.0 p.1) (t-size f t p.0 p.1) (later f t p.0 p.1)
      (said f lf ∙ inside_byte (k.state φ (second k f)) (ap state (sym bf) ∙ d.1))
      (said t p.1 ∙ outside_byte (k.state φ (second k t)) (ap state (sym bt) ∙ d.2)))
  entry-true (C.Graze f t) d = tt
  entry-true (C.Open f t) d = tt

  pub contacts-true : Listed φ k.phases → All (ContactTrue o c φ) (entries_in φ (sheetOf k))
  contacts-true l =
      rw (entries-in-sheet k s φ l) (all-shifted (CalledFor (states_of k φ)) (ContactTrue o c φ) (first k s) entry-true (entries (states_of k φ)) (each_called_for (states_of k φ)))
