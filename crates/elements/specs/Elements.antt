-- The elements in their order, their ranges, and their values at a second.
use Rattle.std.specs.Prelude.{List, [], ◌∷◌, ◌++◌, ℕ, ◌+◌, ℤ, pos, get_or, Option, Result}
use Rattle.sheet_types.specs.declared.refusals.Refusal.{Refusal}
use Rattle.rounding.specs.Limits.{Row, row, ◌±◌, first_out_of_range}
use Rattle.sheet_types.specs.Refusals.{of_limits}
use Rattle.elements.specs.declared.Cubic.{Cubic}
use Rattle.elements.specs.declared.Quadratic.{Quadratic}
use Rattle.elements.specs.declared.Axis.{Axis}
use Rattle.elements.specs.declared.Cone.{Cone}
use Rattle.elements.specs.declared.Elements.{Elements}
use Rattle.elements.specs.Polynomial.{quadratic_at, cubic_at}

-- "Twenty-two numbers, in this order": x, y, d, l1, l2, μ, tan f1, tan f2
abbrev pub fields : Elements → List ℤ
fields e =
    let a = e.axis in
    let l1 = e.penumbra.l in
    let l2 = e.central.l in
    a.x.c0 ∷ a.x.c1 ∷ a.x.c2 ∷ a.x.c3
    ∷ a.y.c0 ∷ a.y.c1 ∷ a.y.c2 ∷ a.y.c3
    ∷ a.d.c0 ∷ a.d.c1 ∷ a.d.c2
    ∷ l1.c0 ∷ l1.c1 ∷ l1.c2
    ∷ l2.c0 ∷ l2.c1 ∷ l2.c2
    ∷ a.mu.c0 ∷ a.mu.c1 ∷ a.mu.c2
    ∷ e.penumbra.tanf ∷ e.central.tanf
    ∷ []

-- the elements whose numbers are those of a list, in the same order (ElementsLaws: each undoes the other)
abbrev pub cubic_from : List ℤ → ℕ → Cubic
cubic_from n k = record { c0 = get_or n k (pos 0); c1 = get_or n (k + 1) (pos 0); c2 = get_or n (k + 2) (pos 0); c3 = get_or n (k + 3) (pos 0) }

abbrev pub quadratic_from : List ℤ → ℕ → Quadratic
quadratic_from n k = record { c0 = get_or n k (pos 0); c1 = get_or n (k + 1) (pos 0); c2 = get_or n (k + 2) (pos 0) }

unfoldable pub elements_of : List ℤ → Elements
elements_of n =
    record {
      axis = record { x = cubic_from n 0; y = cubic_from n 4; d = quadratic_from n 8; mu = quadratic_from n 17 };
      penumbra = record { l = quadratic_from n 11; tanf = get_or n 20 (pos 0) };
      central = record { l = quadratic_from n 14; tanf = get_or n 21 (pos 0) };
    }

-- "each range inclusive", row by row
-- "x0, x1, x2, x3 | ±2·10^8, ±10^8, ±10^5, ±10^4"
abbrev pub position_ranges : Cubic → List Row
position_ranges c = (c.c0 ± 200000000) ∷ (c.c1 ± 100000000) ∷ (c.c2 ± 100000) ∷ (c.c3 ± 10000) ∷ []

-- "μ0, μ1, μ2 (angle) | 0 to 359,999,999; 14,900,000 to 15,100,000; ±100"
abbrev pub hour_angle_ranges : Quadratic → List Row
hour_angle_ranges q = row q.c0 (pos 0) (pos 359999999) ∷ row q.c1 (pos 14900000) (pos 15100000) ∷ (q.c2 ± 100) ∷ []

unfoldable pub ranges : Elements → List Row
ranges e =
    let a = e.axis in
    let l1 = e.penumbra.l in
    let l2 = e.central.l in
    -- "y0 to y3 | as x"
    position_ranges a.x ++ position_ranges a.y
    -- "d0, d1, d2 (angle) | ±25,000,000; ±20,000; ±100"
    ++ (a.d.c0 ± 25000000) ∷ (a.d.c1 ± 20000) ∷ (a.d.c2 ± 100)
    -- "l1: constant, first, second | 5·10^7 to 6·10^7; ±10^5; ±10^4"
    ∷ row l1.c0 (pos 50000000) (pos 60000000) ∷ (l1.c1 ± 100000) ∷ (l1.c2 ± 10000)
    -- "l2: constant, first, second | ±5·10^6; ±10^5; ±10^4"
    ∷ (l2.c0 ± 5000000) ∷ (l2.c1 ± 100000) ∷ (l2.c2 ± 10000)
    ∷ hour_angle_ranges a.mu
    -- "tan f1, tan f2 | 400,000 to 500,000"
    ++ row e.penumbra.tanf (pos 400000) (pos 500000) ∷ row e.central.tanf (pos 400000) (pos 500000)
    ∷ []

-- "first such field, 0..21"
unfoldable pub range_of : Elements → Option ℕ
range_of e = first_out_of_range 0 (ranges e)

-- "2 | an element outside its range | first such field, 0..21"
abbrev pub elements_checked : Elements → Result Unit Refusal
elements_checked e = of_limits 2 (range_of e)

-- "A value at τ starts from the highest coefficient and repeats": of x, y, d and μ of an axis, and of l of a cone
-- (Polynomial)
abbrev pub x_at : Axis → (τ : ℤ) → ℤ
x_at a τ = cubic_at a.x τ

abbrev pub y_at : Axis → (τ : ℤ) → ℤ
y_at a τ = cubic_at a.y τ

abbrev pub d_at : Axis → (τ : ℤ) → ℤ
d_at a τ = quadratic_at a.d τ

abbrev pub μ_at : Axis → (τ : ℤ) → ℤ
μ_at a τ = quadratic_at a.mu τ

abbrev pub l_at : Cone → (τ : ℤ) → ℤ
l_at k τ = quadratic_at k.l τ
