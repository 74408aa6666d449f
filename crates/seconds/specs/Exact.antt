-- The exact answer at a second of an occultation, "From the same sines, cosines and station place", and what the
-- states said of it mean. Definitions only.
use Rattle.std.specs.Prelude.{ℕ, ◌+◌, ℤ, pos, nat_abs, Result, Ok, Err}
use Rattle.sheet_types.specs.declared.refusals.Refusal.{Refusal}
use Rattle.sheet_types.specs.declared.phases.Phase.{Phase}
use Rattle.sheet_types.specs.States.{state_of, SaidRightly}
use Rattle.shadow_geometry.specs.Shadow.{cone}
use Rattle.shadow_geometry.specs.Exact as Exact
use Rattle.shadow.specs.declared.Second.{Second}
use Rattle.requests.specs.declared.Occultation.{Occultation}
use Rattle.seconds.specs.Seconds.{moment_at}
use Rattle.seconds.specs.OneSecond.{first_phase, second_phase}

-- "Exactly inside: that distance is less than that L" (shadow_geometry, Exact)
abbrev pub ExactlyInside : Occultation → Phase → ℤ → Type 0
ExactlyInside o φ τ = Exact.ExactlyInside φ (moment_at o τ) (cone o.body φ)

-- "within n units of it means a difference of at most n"
abbrev pub WithinUnits : Occultation → ℕ → Phase → ℤ → Type 0
WithinUnits o n φ τ = Exact.WithinUnits (pos n) φ (moment_at o τ) (cone o.body φ)

-- document 02, wish 9: "Demand 3 then reads "within the guard plus 13" for 29"
abbrev pub unsure_units : Occultation → ℕ
unsure_units o = nat_abs o.guard + 13

-- "Where our program says inside or outside, that is the exact answer. It says unsure only where the exact distance
-- lies" "within the guard plus 13" units "of the cone's edge" (wish 9): of the two states of a second
pub record SecondMeans (o : Occultation) (τ : ℤ) (x : Second) : Type 0 where
  pub penumbra : SaidRightly (state_of x.penumbra) (ExactlyInside o (first_phase o) τ) (WithinUnits o (unsure_units o) (first_phase o) τ)
  pub central : SaidRightly (state_of x.central) (ExactlyInside o (second_phase o) τ) (WithinUnits o (unsure_units o) (second_phase o) τ)

abbrev pub AnswerMeans : Occultation → ℤ → Result Second Refusal → Type 0
AnswerMeans o τ (Ok x) = SecondMeans o τ x
AnswerMeans o τ (Err r) = Unit
