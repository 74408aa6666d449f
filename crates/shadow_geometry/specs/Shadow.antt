-- The shadow at one second, to the nearest unit: document 01's page of that name, line by line.
use Rattle.std.specs.Prelude.{◌&&◌, cond, List, ℤ, pos, nat_abs, ◌+ℤ◌, ◌-ℤ◌, ◌*ℤ◌}
use Rattle.std.specs.Int.Signed.{lt_z}
use Rattle.sheet_types.specs.States.{State, inside, outside, unsure}
use Rattle.sheet_types.specs.declared.phases.Phase.{Phase}
use Rattle.sheet_types.specs.declared.phases.Phase.TheVariants.{Penumbra, Central, Star}
use Rattle.sheet_types.specs.Phases.{eclipse, star}
use Rattle.rounding.specs.Units.{one}
use Rattle.rounding.specs.Near.{near}
use Rattle.sine.specs.Sine.{sine, cosine}
use Rattle.elements.specs.declared.Axis.{Axis}
use Rattle.elements.specs.declared.Cone.{Cone}
use Rattle.elements.specs.declared.Elements.{Elements}
use Rattle.elements.specs.declared.Body.{Body}
use Rattle.elements.specs.declared.Body.TheVariants as B
use Rattle.elements.specs.Stars.{cylinder_of}
use Rattle.elements.specs.Elements.{x_at, y_at, d_at, μ_at, l_at}
use Rattle.station.specs.declared.Place.{Place}

-- the square
infix 90 ◌²
abbrev pub ◌² : ℤ → ℤ
z ² = z *ℤ z

-- what the shadow at a second is made of, the cones apart
pub record Moment : Type 0 where
  -- x, y, d and μ of the shadow's axis
  pub axis : Axis
  -- R, P and the longitude of the station
  pub place : Place
  -- seconds from the reference instant, ±10,800
  pub τ : ℤ

abbrev pub moment_of : (a : Axis) (p : Place) (τ : ℤ) → Moment
moment_of a p τ = record { axis = a; place = p; τ = τ }

-- a second of an eclipse at a station
abbrev pub moment : (e : Elements) (p : Place) (τ : ℤ) → Moment
moment e p τ = moment_of e.axis p τ

-- the phases of a shadow, in the order of its sheet
abbrev pub phases_of : Body → List Phase
phases_of (B.Sun e) = eclipse
phases_of (B.Star s) = star

-- the cone of a phase: l1 and tan f1, or l2 and tan f2; an eclipse has no star's phase, so there it may be any
abbrev pub eclipse_cone : Phase → Elements → Cone
eclipse_cone Penumbra e = e.penumbra
eclipse_cone Central e = e.central
eclipse_cone Star e = e.penumbra

-- document 02, wish 7: "The shadow is a cylinder: no cone term, no central phase"
abbrev pub cone : Body → Phase → Cone
cone (B.Sun e) φ = eclipse_cone φ e
cone (B.Star s) φ = cylinder_of s

-- ---- the letters

-- Document 02, wish 1: "H becomes μ plus longitude less near(ΔT·417,807/10,000)": the hour angle. The longitude of the
-- place is already less the turn in ΔT (station, Place), and is positive to the east.
unfoldable pub H : Moment → ℤ
H m = μ_at m.axis m.τ +ℤ m.place.longitude

abbrev pub d : Moment → ℤ
d m = d_at m.axis m.τ

-- "q = near(R·cos H/10^8)"
unfoldable pub q : Moment → ℤ
q m = near (m.place.r *ℤ cosine (H m)) one

-- "ξ = near(R·sin H/10^8)"
unfoldable pub ξ : Moment → ℤ
ξ m = near (m.place.r *ℤ sine (H m)) one

-- "η = near((P·cos d - q·sin d)/10^8)"
unfoldable pub η : Moment → ℤ
η m = near (m.place.p *ℤ cosine (d m) -ℤ q m *ℤ sine (d m)) one

-- "ζ = near((P·sin d + q·cos d)/10^8)"
unfoldable pub ζ : Moment → ℤ
ζ m = near (m.place.p *ℤ sine (d m) +ℤ q m *ℤ cosine (d m)) one

-- "u = x-ξ, v = y-η"
unfoldable pub u : Moment → ℤ
u m = x_at m.axis m.τ -ℤ ξ m

unfoldable pub v : Moment → ℤ
v m = y_at m.axis m.τ -ℤ η m

-- "L1 = l1 - near(ζ·tan f1/10^8), L2 likewise; L2 below zero is total."
unfoldable pub L : Moment → Cone → ℤ
L m k = l_at k m.τ -ℤ near (ζ m *ℤ k.tanf) one

-- "M = u²+v²"
abbrev pub M : Moment → ℤ
M m = u m ² +ℤ v m ²

-- ---- the states

-- "Penumbra, with L = L1 .. Central: the same with L the size of L2.": where the cone's edge is. Document 02, wish 7:
-- "L a lunar radius given with the request"
abbrev pub edge : Phase → ℤ → ℤ
edge Penumbra L1 = L1
edge Central L2 = pos (nat_abs L2)
edge Star L = L

-- Document 02, wish 9: "Each 16 in the shadow rules becomes the guard". So it is inside if L > g and M < (L-g)²;
-- outside if M > (L+g)²; otherwise unsure. Here r is L and s is M.
unfoldable pub state : (g r s : ℤ) → State
state g r s =
    cond (lt_z g r && lt_z s ((r -ℤ g) ²)) inside
    (cond (lt_z ((r +ℤ g) ²) s) outside unsure)
