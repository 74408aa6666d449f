-- The two hundredths of a second between which a contact lies. A rule of our own (docs/CONTACTS.md). Definitions only.
use Rattle.std.specs.Prelude.{Bool, cond, ℕ, zero, suc, ◌+◌, ◌-◌, ◌/◌, eqb, ltb, ℤ, pos, nat_abs, ◌+ℤ◌, ◌-ℤ◌, ◌*ℤ◌, Option, Some, None}
use Rattle.sheet_types.specs.declared.phases.Phase.{Phase}
use Rattle.sheet_types.specs.States.{State, code}
use Rattle.elements.specs.declared.Body.{Body}
use Rattle.elements.specs.Stars.{axis_of}
use Rattle.station.specs.declared.Place.{Place}
use Rattle.shadow_geometry.specs.Shadow.{cone, L, M, edge, state}
use Rattle.contact_times.specs.declared.hundredths.Crossing.{Crossing}
use Rattle.contact_times.specs.Parts.{hundredths, moment_by, cone_by}

-- a phase of what the Moon hides, at a place, under a guard
abbrev pub crossing_of : (guard : ℤ) (b : Body) (p : Place) → Phase → Crossing
crossing_of guard b p φ = record { axis = axis_of b; cone = cone b φ; place = p; phase = φ; guard = guard }

-- "*inside* if .., *outside* if ..; otherwise *unsure*", at τ n-ths of an hour
unfoldable pub state_by : (n : ℕ) → Crossing → (τ : ℤ) → State
state_by n c τ =
    state c.guard (edge c.phase (L (moment_by n c.axis c.place τ) (cone_by n c.cone τ))) (M (moment_by n c.axis c.place τ))

-- at τ hundredths
abbrev pub state_at : Crossing → (τ : ℤ) → State
state_at c τ = state_by hundredths c τ

-- from the state that a contact leaves to the one that it comes to: 0 the first, 1 unsure, 2 the other
unfoldable pub side_of : (start s : ℕ) → ℕ
side_of start s = cond (eqb s start) 0 (cond (eqb s 2) 1 2)

-- of the k-th hundredth after `first`
unfoldable pub side_at : Crossing → (first : ℤ) (start k : ℕ) → ℕ
side_at c first start k = side_of start (code (state_at c (first +ℤ pos k)))

-- halving: from low, where f holds, and high, where it does not, to one where it holds with the next where it does not
-- (BracketLaws, halved_is). `n` is at least high - low; more rounds change nothing (halved-enough)
unfoldable pub halved : (n : ℕ) (f : ℕ → Bool) (low high : ℕ) → ℕ
halved zero f low high = low
halved (suc n) f low high =
    cond (ltb (low + 1) high)
    (cond (f ((low + high) / 2)) (halved n f ((low + high) / 2) high) (halved n f low ((low + high) / 2)))
    low

-- a hundredth before the bound with the next one not
unfoldable pub last_below : Crossing → (first : ℤ) (start bound low high : ℕ) → ℕ
last_below c first start bound low high = halved (high - low) (λ k. ltb (side_at c first start k) bound) low high

-- a hundredth with the first state, next to one without; and from there on one with the other state, next to one
-- without
unfoldable pub narrowed : Crossing → (first : ℤ) (start n : ℕ) → Option (ℤ × ℤ)
narrowed c first start n =
    let low = last_below c first start 1 0 n in
    Some ((first +ℤ pos low), (first +ℤ pos (last_below c first start 2 low n + 1)))

-- between two seconds of which one is outside (0) and one inside (1)
unfoldable pub bracket_of : Crossing → (from to : ℤ) → Option (ℤ × ℤ)
bracket_of c from to =
    let first = from *ℤ pos 100 in
    let start = code (state_at c first) in
    cond (eqb (start + code (state_at c (to *ℤ pos 100))) 1) (narrowed c first start (nat_abs (to *ℤ pos 100 -ℤ first))) None
