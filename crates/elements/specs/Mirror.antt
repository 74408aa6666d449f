-- The elements of the mirrored eclipse, or star, where f changes the sign of a number. Definitions only.
use Rattle.std.specs.Prelude.{ℤ}
use Rattle.elements.specs.declared.Cubic.{Cubic}
use Rattle.elements.specs.declared.Quadratic.{Quadratic}
use Rattle.elements.specs.declared.Axis.{Axis}
use Rattle.elements.specs.declared.Elements.{Elements}
use Rattle.elements.specs.declared.Star.{Star}
use Rattle.elements.specs.declared.Body.{Body}
use Rattle.elements.specs.declared.Body.TheVariants as B

-- "all .. coefficients" of a polynomial
abbrev pub each_of_cubic : (f : ℤ → ℤ) → Cubic → Cubic
each_of_cubic f c = record { c0 = f c.c0; c1 = f c.c1; c2 = f c.c2; c3 = f c.c3 }

abbrev pub each_of_quadratic : (f : ℤ → ℤ) → Quadratic → Quadratic
each_of_quadratic f q = record { c0 = f q.c0; c1 = f q.c1; c2 = f q.c2 }

-- document 02, wish 13: "change the sign of all y and d coefficients"
abbrev pub mirrored_axis : (f : ℤ → ℤ) → Axis → Axis
mirrored_axis f a = record { x = a.x; y = each_of_cubic f a.y; d = each_of_quadratic f a.d; mu = a.mu }

abbrev pub mirrored_elements : (f : ℤ → ℤ) → Elements → Elements
mirrored_elements f e = record { axis = mirrored_axis f e.axis; penumbra = e.penumbra; central = e.central }

abbrev pub mirrored_star : (f : ℤ → ℤ) → Star → Star
mirrored_star f s = record { x = s.x; y = each_of_cubic f s.y; d = f s.d; mu = s.mu; radius = s.radius }

abbrev pub mirrored_body : (f : ℤ → ℤ) → Body → Body
mirrored_body f (B.Sun e) = B.Sun (mirrored_elements f e)
mirrored_body f (B.Star s) = B.Star (mirrored_star f s)
