-- The states, the magnitude and the direction of a second of a request, under a guard (16 in document 01's rules).
use Rattle.std.specs.Prelude.{◌≡◌, ℕ, zero, suc, ◌≤◌, ◌<◌, ℤ, nat_abs, get_or}
use Rattle.sheet_types.specs.States.{State, code}
use Rattle.sheet_types.specs.declared.phases.Phase.{Phase}
use Rattle.sheet_types.specs.declared.phases.Phase.TheVariants.{Penumbra, Central, Star}
use Rattle.rounding.specs.Value.{Value}
use Rattle.sine_table.specs.Table.{S}
use Rattle.elements.specs.declared.Axis.{Axis}
use Rattle.elements.specs.declared.Elements.{Elements}
use Rattle.elements.specs.declared.Body.{Body}
use Rattle.elements.specs.declared.Body.TheVariants as B
use Rattle.elements.specs.Stars.{axis_of}
use Rattle.station.specs.declared.Place.{Place}
use Rattle.shadow_geometry.specs.Shadow.{moment_of, moment, phases_of, cone, u, v, L, M, edge, state}
use Rattle.shadow_geometry.specs.Magnitude.{magnitude}
use Rattle.shadow_geometry.specs.Direction.{direction}
use Rattle.shadow.specs.declared.Shadow.{Shadow}
use Rattle.shadow.specs.declared.States.{States}
use Rattle.shadow.specs.declared.Sample.{Sample}
use Rattle.shadow.specs.declared.Second.{Second}
use Rattle.shadow.specs.Shadow.{IsShadow}

-- "Penumbra, with L = L1 and M = u²+v² .. Central: the same with L the size of L2."; document 02, wish 7: a star's "L
-- a lunar radius"
unfoldable pub state_at : (guard : ℤ) (b : Body) (p : Place) → Phase → (τ : ℤ) → State
state_at guard b p φ τ =
    state guard (edge φ (L (moment_of (axis_of b) p τ) (cone b φ))) (M (moment_of (axis_of b) p τ))

-- "(L1-L2)/(L1+L2) if central is inside; otherwise (L1-root(M))/(L1+L2), and 0 if that is negative"
unfoldable pub magnitude_at : (guard : ℤ) (e : Elements) (p : Place) (τ : ℤ) → ℕ
magnitude_at guard e p τ =
    magnitude (state_at guard (B.Sun e) p Central τ) (L (moment e p τ) e.penumbra) (L (moment e p τ) e.central) (M (moment e p τ))

-- "Direction in tenths of a degree, north through east", of u and v
unfoldable pub direction_at : (a : Axis) (p : Place) (τ : ℤ) → ℕ
direction_at a p τ = direction S (u (moment_of a p τ)) (v (moment_of a p τ))

-- ---- what the code gives

-- a shadow within the sizes that the code of states, magnitude and direction takes
pub record ShadowSizes (s : Shadow) : Type 0 where
  pub u : nat_abs s.u ≤ 1000000000
  pub v : nat_abs s.v ≤ 1000000000
  pub l1 : nat_abs s.l1 ≤ 600000000
  pub l2 : nat_abs s.l2 ≤ 600000000
  pub m : nat_abs s.m ≤ 1000000000000000000

-- the states of a shadow
pub record StatesOf (guard : ℤ) (s : Shadow) (r : States) : Type 0 where
  pub penumbra : r.penumbra ≡ code (state guard (edge Penumbra s.l1) s.m)
  pub central : r.central ≡ code (state guard (edge Central s.l2) s.m)
  pub m : r.m ≡ s.m

-- the states of a second of an eclipse, with its M
pub record IsStates (guard : ℤ) (e : Elements) (p : Place) (τ : ℤ) (r : States) : Type 0 where
  pub penumbra : r.penumbra ≡ code (state_at guard (B.Sun e) p Penumbra τ)
  pub central : r.central ≡ code (state_at guard (B.Sun e) p Central τ)
  pub m : r.m ≡ M (moment e p τ)

-- the k-th phase of a shadow, in the order of its sheet; a star's one phase stands for the second too
abbrev pub phase_in : Body → ℕ → Phase
phase_in b k = get_or (phases_of b) k Star

-- L of the k-th phase
abbrev pub radius_in : Sample → ℕ → ℤ
radius_in r zero = r.first
radius_in r (suc k) = r.second

-- the shadow in its phases, letter by letter
pub record IsSample (b : Body) (p : Place) (τ : ℤ) (r : Sample) : Type 0 where
  pub u : Value (u (moment_of (axis_of b) p τ)) 602170000 r.u
  pub v : Value (v (moment_of (axis_of b) p τ)) 703170000 r.v
  pub m : Value (M (moment_of (axis_of b) p τ)) 1000000000000000000 r.m
  pub radius : (k : ℕ) → k < 2 → Value (L (moment_of (axis_of b) p τ) (cone b (phase_in b k))) 600000000 (radius_in r k)

-- all of a second of an eclipse
pub record IsSecond (guard : ℤ) (e : Elements) (p : Place) (τ : ℤ) (r : Second) : Type 0 where
  pub shadow : IsShadow e p τ r.shadow
  pub penumbra : r.penumbra ≡ code (state_at guard (B.Sun e) p Penumbra τ)
  pub central : r.central ≡ code (state_at guard (B.Sun e) p Central τ)
  pub magnitude : r.magnitude ≡ magnitude_at guard e p τ
  pub direction : r.direction ≡ direction_at e.axis p τ
