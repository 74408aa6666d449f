-- The answer to seven accepted rows: elements in their ranges with their misfits, or the first refusal. Definitions
-- only.
use Rattle.std.specs.Prelude.{Bool, cond, ℕ, ◌+◌, leb, ℤ, pos, negsuc, nat_abs, ◌-ℤ◌, Option, Some, None, Result, Ok, Err}
use Rattle.element_fits.specs.declared.Fits.{Fits}
use Rattle.sheet_types.specs.declared.refusals.Refusal.{Refusal}
use Rattle.sheet_types.specs.Refusals.{refusal}
use Rattle.elements.specs.declared.Cubic.{Cubic}
use Rattle.elements.specs.declared.Quadratic.{Quadratic}
use Rattle.elements.specs.Elements.{elements_checked}
use Rattle.element_fits.specs.declared.least_squares.Hourly.{Hourly}
use Rattle.element_fits.specs.LeastSquares.{cubic, quadratic}
use Rattle.element_fits.specs.Exact.{cubic_at_hour}
use Rattle.element_fits.specs.declared.Columns.{Columns}
use Rattle.element_fits.specs.declared.Fitting.{Fitting}
use Rattle.element_fits.specs.declared.Misfits.{Misfits}

-- ---- how far a fit is from its values

-- how far a cubic's value at hour t is from v; at whole hours document 01's rule rounds nothing (`Meaning`)
unfoldable pub off : Cubic → (t v : ℤ) → ℕ
off c t v = nat_abs (cubic_at_hour c t -ℤ v)

unfoldable pub larger : ℕ → ℕ → ℕ
larger a b = cond (leb b a) a b

-- "the largest difference at any of the seven hours"
unfoldable pub misfit : Cubic → Hourly → ℕ
misfit c v =
    larger (larger (larger (larger (larger (larger (off c (negsuc 2) v.v0) (off c (negsuc 1) v.v1)) (off c (negsuc 0) v.v2))
    (off c (pos 0) v.v3)) (off c (pos 1) v.v4)) (off c (pos 2) v.v5)) (off c (pos 3) v.v6)

-- a quadratic as a cubic
abbrev pub raised : Quadratic → Cubic
raised q = record { c0 = q.c0; c1 = q.c1; c2 = q.c2; c3 = pos 0 }

-- "of x, y, d, l1, l2, μ, in this order"
unfoldable pub misfits_of : Columns → Misfits
misfits_of c =
    let ofCubic : Hourly → ℤ = λ v. pos (misfit (cubic v) v) in
    let ofQuadratic : Hourly → ℤ = λ v. pos (misfit (raised (quadratic v)) v) in
    record {
      x = ofCubic c.x;
      y = ofCubic c.y;
      d = ofQuadratic c.d;
      l1 = ofQuadratic c.l1;
      l2 = ofQuadratic c.l2;
      mu = ofQuadratic c.mu;
    }

-- ---- the first that misses by more than the tolerance

-- what was found before, or this place where nothing was found and it is not good
unfoldable pub unless : Option ℕ → Bool → ℕ → Option ℕ
unless (Some i) good place = Some i
unless None good place = cond good None (Some place)

-- whether a cubic's value at an hour is within a tolerance of v
unfoldable pub close : Cubic → (t v : ℤ) → (tolerance : ℕ) → Bool
close c t v tolerance = leb (off c t v) tolerance

-- "the first hour, 0 to 6, that misses by more than the tolerance", counted on from `place`
unfoldable pub missed : Option ℕ → Cubic → Hourly → (tolerance place : ℕ) → Option ℕ
missed found c v tolerance place =
    let at : ℤ → ℤ → Bool = λ t x. close c t x tolerance in
    unless (unless (unless (unless (unless (unless (unless found (at (negsuc 2) v.v0) place) (at (negsuc 1) v.v1) (place + 1))
    (at (negsuc 0) v.v2) (place + 2)) (at (pos 0) v.v3) (place + 3)) (at (pos 1) v.v4) (place + 4)) (at (pos 2) v.v5) (place + 5))
    (at (pos 3) v.v6) (place + 6)

-- "ten times the fit (0 to 5 in the order of the misfits)"
unfoldable pub first_missed : Columns → (tolerance : ℕ) → Option ℕ
first_missed c tolerance =
    let cubicMissed : Option ℕ → Hourly → ℕ → (Option ℕ) = λ found v place. missed found (cubic v) v tolerance place in
    let quadraticMissed : Option ℕ → Hourly → ℕ → (Option ℕ) = λ found v place. missed found (raised (quadratic v)) v tolerance place in
    quadraticMissed (quadraticMissed (quadraticMissed (quadraticMissed (cubicMissed (cubicMissed None c.x 0) c.y 10) c.d 20)
    c.l1 30) c.l2 40) c.mu 50

-- ---- the answer

-- "17 with ten times the fit .. plus the first hour"
abbrev pub of_missed : Fitting → Option ℕ → Result Fits Refusal
of_missed f None = Ok (record { elements = f.elements; misfits = misfits_of f.columns })
of_missed f (Some place) = Err (refusal 17 place)

-- "2 with the element out of its range", then 17
abbrev pub of_checked : Fitting → Option ℕ → Result Unit Refusal → Result Fits Refusal
of_checked f found (Ok tt) = of_missed f found
of_checked f found (Err r) = Err r

unfoldable pub judged : Fitting → (tolerance : ℕ) → Result Fits Refusal
judged f tolerance = of_checked f (first_missed f.columns tolerance) (elements_checked f.elements)
