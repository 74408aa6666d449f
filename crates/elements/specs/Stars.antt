-- Document 02, wish 7: the elements of a star's occultation, their ranges, and the axis and the cylinder that they
-- make.
use Rattle.std.specs.Prelude.{List, [], ◌∷◌, ◌++◌, ℤ, pos, get_or, Option, Result, ℕ}
use Rattle.sheet_types.specs.declared.refusals.Refusal.{Refusal}
use Rattle.rounding.specs.Limits.{Row, row, ◌±◌, first_out_of_range}
use Rattle.sheet_types.specs.Refusals.{of_limits, andThen}
use Rattle.elements.specs.declared.Quadratic.{Quadratic}
use Rattle.elements.specs.declared.Axis.{Axis}
use Rattle.elements.specs.declared.Cone.{Cone}
use Rattle.elements.specs.declared.Star.{Star}
use Rattle.elements.specs.declared.Body.{Body}
use Rattle.elements.specs.declared.Body.TheVariants as B
use Rattle.elements.specs.Elements.{cubic_from, quadratic_from, position_ranges, hour_angle_ranges, elements_checked}

-- "The elements are x, y, d0 and μ, twelve numbers, places 0 to 11"
abbrev pub star_fields : Star → List ℤ
star_fields s =
    s.x.c0 ∷ s.x.c1 ∷ s.x.c2 ∷ s.x.c3
    ∷ s.y.c0 ∷ s.y.c1 ∷ s.y.c2 ∷ s.y.c3
    ∷ s.d
    ∷ s.mu.c0 ∷ s.mu.c1 ∷ s.mu.c2
    ∷ []

-- the star whose numbers are those of a list: the elements, and "a lunar radius given with the request"
unfoldable pub star_of : List ℤ → Star
star_of n = record { x = cubic_from n 0; y = cubic_from n 4; d = get_or n 8 (pos 0); mu = quadratic_from n 9; radius = get_or n 12 (pos 0) }

-- x, y and μ as an eclipse's; "d0 has ±30,000,000"
unfoldable pub star_ranges : Star → List Row
star_ranges s = position_ranges s.x ++ position_ranges s.y ++ (s.d ± 30000000) ∷ hour_angle_ranges s.mu

unfoldable pub star_range_of : Star → Option ℕ
star_range_of s = first_out_of_range 0 (star_ranges s)

-- "L a lunar radius given with the request, from 27,200,000 to 27,300,000"
unfoldable pub radius_range_of : ℤ → Option ℕ
radius_range_of radius = first_out_of_range 0 (row radius (pos 27200000) (pos 27300000) ∷ [])

-- "13 with place 0 for the radius, after 2"
abbrev pub star_checked : Star → Result Unit Refusal
star_checked s = andThen (of_limits 2 (star_range_of s)) (of_limits 13 (radius_range_of s.radius))

-- the numbers of what the Moon hides, checked
abbrev pub body_checked : Body → Result Unit Refusal
body_checked (B.Sun e) = elements_checked e
body_checked (B.Star s) = star_checked s

-- no coefficient but the first: the same at every second
abbrev pub constant : ℤ → Quadratic
constant c = record { c0 = c; c1 = pos 0; c2 = pos 0 }

-- "The elements are x, y, d0 and μ": the declination has no other coefficient
abbrev pub star_axis : Star → Axis
star_axis s = record { x = s.x; y = s.y; d = constant s.d; mu = s.mu }

-- "The shadow is a cylinder: no cone term": its tangent is 0, and its radius does not change
abbrev pub cylinder_of : Star → Cone
cylinder_of s = record { l = constant s.radius; tanf = pos 0 }

abbrev pub axis_of : Body → Axis
axis_of (B.Sun e) = e.axis
axis_of (B.Star s) = star_axis s
