-- Rows by computation: the definitions at numbers worked by hand.
use Rattle.std.specs.Prelude.{◌≡◌, refl, ℕ, ℤ, pos, negsuc, ◌+ℤ◌, ◌-ℤ◌}
use Rattle.std.specs.Int.Signed.{le_z_yes, lt_z_yes, clash_ℤ}
use Rattle.sheet_types.specs.States.{State, inside, outside, unsure}
use Rattle.sheet_types.specs.declared.phases.Phase.{Phase}
use Rattle.sheet_types.specs.declared.phases.Phase.TheVariants.{Penumbra, Central}
use Rattle.rounding.specs.Near.{near}
use Rattle.rounding.specs.Root.{root}
use Rattle.sine_table.specs.Table.{factorial, numerator, denominator, common, term, series, S}
use Rattle.sine.specs.FirstQuadrant.{arc, sag, between, capped, first_quadrant}
use Rattle.sine.specs.Sine.{reduced, sineIn, sine, cosine}
use Rattle.elements.specs.declared.Elements.{Elements}
use Rattle.elements.specs.Polynomial.{step, quadratic_at, cubic_at}
use Rattle.elements.specs.declared.Body.TheVariants as B
use Rattle.shadow_geometry.specs.Shadow.{Moment, moment, cone, ◌², H, q, ξ, η, ζ, u, v, L, M, edge, state}
use Rattle.shadow_geometry.specs.Exact.{exact-quadratic, exact-cubic, exact_q, exact_ξ, exact_η, exact_ζ, exact_term, exact_u, exact_v, exact_L}
use Rattle.shadow_geometry.specs.Exact.{ExactlyInside, ExactlyOutside}
use Rattle.shadow_geometry.specs.Direction.{largest, quarter, direction}
use Rattle.shadow_geometry.specs.Magnitude.{magnitude}

-- ---- the edges of the states, for a radius of 54,000,000 and a guard of 16
abbrev r : ℤ
r = pos 54000000

-- "M = (L+16)²+1 is outside, and root makes it unsure"
outside_by_one : state (pos 16) r ((r +ℤ pos 16) ² +ℤ pos 1) ≡ outside
unfolding state
outside_by_one = refl

unsure_at_outer : state (pos 16) r ((r +ℤ pos 16) ²) ≡ unsure
unfolding state
unsure_at_outer = refl

unsure_at_inner : state (pos 16) r ((r -ℤ pos 16) ²) ≡ unsure
unfolding state
unsure_at_inner = refl

inside_by_one : state (pos 16) r ((r -ℤ pos 16) ² -ℤ pos 1) ≡ inside
unfolding state
inside_by_one = refl

-- "the cases in document 01 use guard 16": a cone of 16 units has no inside
none_inside : state (pos 16) (pos 16) (pos 0) ≡ unsure
unfolding state
none_inside = refl

-- ---- the hand-worked sheet: at the pole, at some seconds

-- "x1 = 36,000,000, y0 = 99,664,768, l1 = 54,000,000, l2 = -1,000,000, μ1 = 15,000,000, tan f1 = 460,000, tan f2 =
-- 458,000, all other elements 0"
abbrev pub worked : Elements
worked =
    record {
      axis = record {
        x = record { c0 = pos 0; c1 = pos 36000000; c2 = pos 0; c3 = pos 0 };
        y = record { c0 = pos 99664768; c1 = pos 0; c2 = pos 0; c3 = pos 0 };
        d = record { c0 = pos 0; c1 = pos 0; c2 = pos 0 };
        mu = record { c0 = pos 0; c1 = pos 15000000; c2 = pos 0 };
      };
      penumbra = record { l = record { c0 = pos 54000000; c1 = pos 0; c2 = pos 0 }; tanf = pos 460000 };
      central = record { l = record { c0 = negsuc 999999; c1 = pos 0; c2 = pos 0 }; tanf = pos 458000 };
    }

abbrev at_pole : ℤ → Moment
at_pole τ = moment worked (record { r = pos 0; p = pos 99664768; longitude = pos 0 }) τ

abbrev pole_state : Phase → ℤ → State
pole_state φ τ = state (pos 16) (edge φ (L (at_pole τ) (cone (B.Sun worked) φ))) (M (at_pole τ))

-- "enter penumbra -5401 -5399", with one unsure second between
before_enter : pole_state Penumbra (negsuc 5400) ≡ outside
unfolding state H L u v ξ η ζ q quadratic_at cubic_at step near factorial numerator denominator common term
    series S arc sag between capped first_quadrant reduced sineIn sine cosine
before_enter = refl

at-enter : pole_state Penumbra (negsuc 5399) ≡ unsure
unfolding state H L u v ξ η ζ q quadratic_at cubic_at step near factorial numerator denominator common term
    series S arc sag between capped first_quadrant reduced sineIn sine cosine
at-enter = refl

after_enter : pole_state Penumbra (negsuc 5398) ≡ inside
unfolding state H L u v ξ η ζ q quadratic_at cubic_at step near factorial numerator denominator common term
    series S arc sag between capped first_quadrant reduced sineIn sine cosine
after_enter = refl

-- "leave central 99 101"
before_leave : pole_state Central (pos 99) ≡ inside
unfolding state H L u v ξ η ζ q quadratic_at cubic_at step near factorial numerator denominator common term
    series S arc sag between capped first_quadrant reduced sineIn sine cosine
before_leave = refl

after_leave : pole_state Central (pos 101) ≡ outside
unfolding state H L u v ξ η ζ q quadratic_at cubic_at step near factorial numerator denominator common term
    series S arc sag between capped first_quadrant reduced sineIn sine cosine
after_leave = refl

-- at second 100 the exact distance is the exact L: exactly outside
exactly_outside : ExactlyOutside Central (at_pole (pos 100)) worked.central
unfolding exact_u exact_v exact_L exact_ξ exact_η exact_ζ exact_q exact_term exact-quadratic exact-cubic H
    quadratic_at cubic_at step near factorial numerator denominator common term series S arc sag between capped
    first_quadrant reduced sineIn sine cosine
exactly_outside i = clash_ℤ i.square (le_z_yes tt)

exactly_inside : ExactlyInside Central (at_pole (pos 99)) worked.central
unfolding exact_u exact_v exact_L exact_ξ exact_η exact_ζ exact_q exact_term exact-quadratic exact-cubic H
    quadratic_at cubic_at step near factorial numerator denominator common term series S arc sag between capped
    first_quadrant reduced sineIn sine cosine
exactly_inside = record { sign = le_z_yes tt; square = lt_z_yes tt }

-- "closest 0 1037735": L2 with its sign; without it the total eclipse would read as annular, 963,636
total : magnitude inside (L (at_pole (pos 0)) worked.penumbra) (L (at_pole (pos 0)) worked.central) (M (at_pole (pos 0))) ≡ 1037735
unfolding root magnitude H L u v ξ η ζ q quadratic_at cubic_at step near factorial numerator denominator common
    term series S arc sag between capped first_quadrant reduced sineIn sine cosine
total = refl

-- ---- the magnitude outside of central: partial, and 0 outside of the penumbra
partial : magnitude outside (pos 54000000) (negsuc 999999) (pos 27000000 ²) ≡ 509433
unfolding magnitude root
partial = refl

nothing : magnitude outside (pos 54000000) (negsuc 999999) (pos 54000001 ²) ≡ 0
unfolding magnitude root
nothing = refl

-- ---- directions over the table S[k] = k, which starts from 0 and rises: DirectionLaws has the same of every such
-- table
abbrev line : ℕ → ℕ
line k = k

diagonal : direction line (pos 1) (pos 1) ≡ 450
unfolding direction quarter largest
diagonal = refl

south : direction line (pos 0) (negsuc 4) ≡ 1800
unfolding direction quarter largest
south = refl

east : direction line (pos 5) (pos 0) ≡ 900
unfolding direction quarter largest
east = refl

west : direction line (negsuc 4) (pos 0) ≡ 2700
unfolding direction quarter largest
west = refl
