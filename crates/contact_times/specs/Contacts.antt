-- The contact of a phase of an occultation between two seconds: two hundredths of a second, or the refusal. A rule of
-- our own (docs/CONTACTS.md). Definitions only.
use Rattle.std.specs.Prelude.{Bool, cond, ◌&&◌, List, ℕ, ltb, ℤ, pos, nat_abs, length, get_or, Result, Ok, Err, Option, Some, None}
use Rattle.std.specs.Int.Signed.{le_z, lt_z}
use Rattle.sheet_types.specs.declared.refusals.Refusal.{Refusal}
use Rattle.sheet_types.specs.declared.phases.Phase.{Phase}
use Rattle.sheet_types.specs.declared.phases.Phase.TheVariants.{Penumbra}
use Rattle.sheet_types.specs.Refusals.{refusal, andThen}
use Rattle.elements.specs.declared.Body.{Body}
use Rattle.station.specs.Place.{place_of}
use Rattle.shadow_geometry.specs.Shadow.{phases_of}
use Rattle.requests.specs.declared.Occultation.{Occultation}
use Rattle.requests.specs.Requests.{checked}
use Rattle.requests.specs.Windows.{window_holds}
use Rattle.requests.specs.Admission.{room_checked, sines_after}
use Rattle.contact_times.specs.declared.hundredths.Crossing.{Crossing}
use Rattle.contact_times.specs.Brackets.{crossing_of, bracket_of}

-- "under the larger of the request's guard and 32"
abbrev pub used_guard : ℤ → ℤ
used_guard g = cond (lt_z g (pos 32)) (pos 32) g

-- a phase of an occultation, as its contacts are sought
abbrev pub crossing : Occultation → Phase → Crossing
crossing o φ = crossing_of (used_guard o.guard) o.body (place_of o.station) φ

-- "phase 0 is the penumbra, 1 central; of a star 0 alone": a place in the list of the shadow's phases
unfoldable pub phase_holds : Body → ℤ → Bool
phase_holds b φ = le_z (pos 0) φ && ltb (nat_abs φ) (length (phases_of b))

abbrev pub phase_at : Body → ℤ → Phase
phase_at b φ = get_or (phases_of b) (nat_abs φ) Penumbra

-- "22 with place 0 for a phase that is none"
unfoldable pub phase_checked : Body → ℤ → Result Unit Refusal
phase_checked b φ = cond (phase_holds b φ) (Ok tt) (Err (refusal 22 0))

-- "1 with place 0 for the window, then for two seconds that are no window, then with place 1 for the guard; 2; of a
-- star 13; 3; 22 with place 0 ..; 4 with place 901". The window and the two seconds have the same refusal, so either
-- may come first
unfoldable pub contact_checked : Occultation → (φ from to : ℤ) → List ℕ → Result Unit Refusal
contact_checked o φ from to sines =
    cond (window_holds (record { first = from; last = to })) (andThen (checked o) (andThen (phase_checked o.body φ) (room_checked sines)))
    (Err (refusal 1 0))

-- "22 with place 1 where the two seconds are not one surely outside and one surely inside"
abbrev pub found : Option (ℤ × ℤ) → Result (ℤ × ℤ) Refusal
found (Some (a, b)) = Ok (a, b)
found None = Err (refusal 22 1)

abbrev pub contact_by : Result Unit Refusal → Occultation → (φ from to : ℤ) → Result (ℤ × ℤ) Refusal
contact_by (Err r) o φ from to = Err r
contact_by (Ok tt) o φ from to = found (bracket_of (crossing o (phase_at o.body φ)) from to)

unfoldable pub contact_answer : Occultation → (φ from to : ℤ) → List ℕ → Result (ℤ × ℤ) Refusal
contact_answer o φ from to sines = contact_by (contact_checked o φ from to sines) o φ from to

-- the buffer for table S afterwards
unfoldable pub contact_sines : Occultation → (φ from to : ℤ) → List ℕ → List ℕ
contact_sines o φ from to sines = sines_after (contact_checked o φ from to sines) sines
