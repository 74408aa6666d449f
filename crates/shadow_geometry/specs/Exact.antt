-- The exact shadow at one second, the measure of demand 3. Each value is a numerator over a denominator that its
-- comment names; u, v and L stand over one, D, so that fractions are cleared once, here.
use Rattle.std.specs.Prelude.{ℕ, ◌*◌, ℤ, pos, ◌+ℤ◌, ◌-ℤ◌, ◌*ℤ◌, ◌≤ℤ◌, ◌<ℤ◌}
use Rattle.sheet_types.specs.declared.phases.Phase.{Phase}
use Rattle.rounding.specs.Units.{one, hour}
use Rattle.sine.specs.Sine.{sine, cosine}
use Rattle.elements.specs.declared.Cubic.{Cubic}
use Rattle.elements.specs.declared.Quadratic.{Quadratic}
use Rattle.elements.specs.declared.Cone.{Cone}
use Rattle.shadow_geometry.specs.Shadow.{Moment, H, d, ◌², edge}

-- the cube
infix 90 ◌³
abbrev pub ◌³ : ℤ → ℤ
z ³ = z *ℤ z *ℤ z

-- "x, y, l1, l2 without rounding as fractions over 3600³"
unfoldable pub exact-cubic : Cubic → (τ : ℤ) → ℤ
exact-cubic c τ = c.c0 *ℤ hour ³ +ℤ c.c1 *ℤ τ *ℤ hour ² +ℤ c.c2 *ℤ τ ² *ℤ hour +ℤ c.c3 *ℤ τ ³

unfoldable pub exact-quadratic : Quadratic → (τ : ℤ) → ℤ
exact-quadratic q τ = q.c0 *ℤ hour ³ +ℤ q.c1 *ℤ τ *ℤ hour ² +ℤ q.c2 *ℤ τ ² *ℤ hour

abbrev pub exact_x : Moment → ℤ
exact_x m = exact-cubic m.axis.x m.τ

abbrev pub exact_y : Moment → ℤ
exact_y m = exact-cubic m.axis.y m.τ

abbrev pub exact_l : Moment → Cone → ℤ
exact_l m k = exact-quadratic k.l m.τ

-- "ξ, η, ζ and the cone terms from the same R, P, sines and cosines as fractions over powers of 10^8"
-- over 10^8
unfoldable pub exact_q : Moment → ℤ
exact_q m = m.place.r *ℤ cosine (H m)

unfoldable pub exact_ξ : Moment → ℤ
exact_ξ m = m.place.r *ℤ sine (H m)

-- over 10^16
unfoldable pub exact_η : Moment → ℤ
exact_η m = m.place.p *ℤ cosine (d m) *ℤ one -ℤ exact_q m *ℤ sine (d m)

unfoldable pub exact_ζ : Moment → ℤ
exact_ζ m = m.place.p *ℤ sine (d m) *ℤ one +ℤ exact_q m *ℤ cosine (d m)

-- over 10^24
unfoldable pub exact_term : Moment → Cone → ℤ
exact_term m k = exact_ζ m *ℤ k.tanf

-- D = 3600³ 10^24, and over it u = x-ξ, v = y-η, L = l less the cone's term
abbrev pub D : ℕ
D = 3600 * 3600 * 3600 * (100000000 * 100000000 * 100000000)

unfoldable pub exact_u : Moment → ℤ
exact_u m = exact_x m *ℤ one ³ -ℤ exact_ξ m *ℤ (hour ³ *ℤ one ²)

unfoldable pub exact_v : Moment → ℤ
exact_v m = exact_y m *ℤ one ³ -ℤ exact_η m *ℤ (hour ³ *ℤ one)

unfoldable pub exact_L : Moment → Cone → ℤ
exact_L m k = exact_l m k *ℤ one ³ -ℤ exact_term m k *ℤ hour ³

-- "The exact distance is the one whose square is u²+v² from these": the square, over D²
abbrev pub exact_M : Moment → ℤ
exact_M m = exact_u m ² +ℤ exact_v m ²

-- "the exact L is, from these too, L1 for the penumbra and the size of L2 for central"
abbrev pub exact_edge : Phase → Moment → Cone → ℤ
exact_edge φ m k = edge φ (exact_L m k)

-- "distances compared by their squares (a distance is more than anything negative)": the distance whose square is s is
-- at most b
pub record AtMost (s b : ℤ) : Type 0 where
  pub sign : pos 0 ≤ℤ b
  pub square : s ≤ℤ (b ²)

-- less than b
pub record Less (s b : ℤ) : Type 0 where
  pub sign : pos 0 ≤ℤ b
  pub square : s <ℤ (b ²)

-- at least b
pub record AtLeast (s b : ℤ) : Type 0 where
  pub square : pos 0 ≤ℤ b → (b ²) ≤ℤ s

-- differs from b by "a difference of at most n"
pub record DiffersAtMost (s b n : ℤ) : Type 0 where
  pub high : AtMost s (b +ℤ n)
  pub low : AtLeast s (b -ℤ n)

-- "Exactly inside: that distance is less than that L; exactly outside: any other."
abbrev pub ExactlyInside : Phase → Moment → Cone → Type 0
ExactlyInside φ m k = Less (exact_M m) (exact_edge φ m k)

abbrev pub ExactlyOutside : Phase → Moment → Cone → Type 0
ExactlyOutside φ m k = ExactlyInside φ m k → ⊥

-- "The cone's edge is at that L, and within n units of it means a difference of at most n."
abbrev pub WithinUnits : ℤ → Phase → Moment → Cone → Type 0
WithinUnits n φ m k = DiffersAtMost (exact_M m) (exact_edge φ m k) (n *ℤ pos D)
