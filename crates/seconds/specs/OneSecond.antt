-- One second of an occultation: its shadow, states, magnitude and direction, or the refusal. Definitions only.
use Rattle.std.specs.Prelude.{◌≡◌, cond, List, ℕ, ℤ, Result, Err, Ok}
use Rattle.sheet_types.specs.declared.refusals.Refusal.{Refusal}
use Rattle.sheet_types.specs.declared.phases.Phase.{Phase}
use Rattle.sheet_types.specs.declared.phases.Phase.TheVariants as P
use Rattle.sheet_types.specs.States.{code}
use Rattle.sheet_types.specs.Refusals.{refusal}
use Rattle.elements.specs.declared.Star.{Star}
use Rattle.elements.specs.declared.Body.TheVariants as B
use Rattle.elements.specs.Stars.{star_axis, cylinder_of}
use Rattle.station.specs.declared.Place.{Place}
use Rattle.shadow_geometry.specs.Shadow.{moment_of, cone, u, v, L, M}
use Rattle.shadow.specs.declared.Second.{Second}
use Rattle.shadow.specs.Second as Shadow
use Rattle.shadow.specs.Second.{phase_in}
use Rattle.requests.specs.declared.Occultation.{Occultation}
use Rattle.requests.specs.Windows.{in_span}
use Rattle.requests.specs.Admission.{admitted, sines_after}
use Rattle.seconds.specs.Seconds.{moment_at, state_at, direction_at, magnitude_at}

-- penumbra and central of an eclipse; a star's one phase stands for both (shadow, Second)
abbrev pub first_phase : Occultation → Phase
first_phase o = phase_in o.body 0

abbrev pub second_phase : Occultation → Phase
second_phase o = phase_in o.body 1

-- all of a second, number by number
abbrev pub whole_second : Occultation → ℤ → Second
whole_second o τ =
    record {
      shadow = record {
        u = u (moment_at o τ);
        v = v (moment_at o τ);
        l1 = L (moment_at o τ) (cone o.body (first_phase o));
        l2 = L (moment_at o τ) (cone o.body (second_phase o));
        m = M (moment_at o τ);
      };
      penumbra = code (state_at o (first_phase o) τ);
      central = code (state_at o (second_phase o) τ);
      magnitude = magnitude_at o τ;
      direction = direction_at o τ;
    }

abbrev pub second_by : Result Unit Refusal → Occultation → ℤ → Result Second Refusal
second_by (Err r) o τ = Err r
second_by (Ok tt) o τ = Ok (whole_second o τ)

-- "1 | window outside its range | 0" too for a second outside -10,800..10,800; then the refusals of the request and
-- of its buffer for table S
unfoldable pub second_checked : Occultation → ℤ → List ℕ → Result Unit Refusal
second_checked o τ sines = cond (in_span τ) (admitted o sines) (Err (refusal 1 0))

unfoldable pub second_answer : Occultation → ℤ → List ℕ → Result Second Refusal
second_answer o τ sines = second_by (second_checked o τ sines) o τ

-- that buffer afterwards
unfoldable pub second_sines : Occultation → ℤ → List ℕ → List ℕ
second_sines o τ sines = sines_after (second_checked o τ sines) sines

-- ---- what the code gives

-- all of a second of a star
pub record IsStarSecond (guard : ℤ) (s : Star) (p : Place) (τ : ℤ) (r : Second) : Type 0 where
  pub u : r.shadow.u ≡ u (moment_of (star_axis s) p τ)
  pub v : r.shadow.v ≡ v (moment_of (star_axis s) p τ)
  pub l1 : r.shadow.l1 ≡ L (moment_of (star_axis s) p τ) (cylinder_of s)
  pub l2 : r.shadow.l2 ≡ L (moment_of (star_axis s) p τ) (cylinder_of s)
  pub m : r.shadow.m ≡ M (moment_of (star_axis s) p τ)
  pub penumbra : r.penumbra ≡ code (Shadow.state_at guard (B.Star s) p P.Star τ)
  pub central : r.central ≡ code (Shadow.state_at guard (B.Star s) p P.Star τ)
  pub magnitude : r.magnitude ≡ 0
  pub direction : r.direction ≡ Shadow.direction_at (star_axis s) p τ
