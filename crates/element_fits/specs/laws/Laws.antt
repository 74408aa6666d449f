-- Laws of the parts: their sizes.
use Rattle.std.specs.Prelude.{◌≡◌, ◌≤◌, ℕ, ℤ, pos, neg_ℤ, nat_abs, ◌-ℤ◌, ◌+ℤ◌}
use Rattle.std.proofs.Common.{arith, sym, subst, ap, ◌∙◌}
use Rattle.elements.specs.declared.Cubic.{Cubic}
use Rattle.elements.specs.declared.Quadratic.{Quadratic}
use Rattle.rounding.specs.Parts.{sum, opposite}
use Rattle.rounding.specs.laws.Order.{nat_abs_by, nat_abs_sum, nat_abs_minus}
use Rattle.sine.specs.Sine.{reduced}
use Rattle.sine.specs.laws.SineLaws.{reduced_below}
use Rattle.besselian_rows.specs.declared.besselian.Row.{Row}
use Rattle.besselian_rows.specs.declared.besselian.Radii.{Radii}
use Rattle.besselian_rows.specs.Exact.{S1, S2, RadiiInRange}
use Rattle.besselian_rows.specs.Rounded.{millions, cos-a, sin-a, slope, foot, elements_of}
use Rattle.besselian_rows.specs.AcceptedLaws.{Accepted, accepted-is}
use Rattle.besselian_rows.specs.laws.Sizes as row
use Rattle.element_fits.specs.laws.ArcsineLaws.{arcsine-size}
use Rattle.element_fits.specs.laws.ArgumentLaws.{argument-below}
use Rattle.element_fits.specs.declared.least_squares.Hourly.{Hourly}
use Rattle.element_fits.specs.LeastSquares.{cubic, quadratic}
use Rattle.element_fits.specs.Sizes.{HourlySizes, CoefficientSizes, cubic-sizes, quadratic-sizes}
use Rattle.element_fits.specs.declared.Rows.{Rows}
use Rattle.element_fits.specs.declared.Hour.{Hour}
use Rattle.element_fits.specs.declared.Hours.{Hours}
use Rattle.element_fits.specs.FromTables.{ascension, hour_of, hours_of, each, each_x, each_y, each_d, each_l1, each_l2, each_ascension, offset, hour_angles, middleOf, columnsOf, fitting_of}
use Rattle.element_fits.specs.Answers.{raised}
use Rattle.element_fits.specs.laws.Sizes.{AllAccepted, HourSizes, HoursSizes, ColumnsSizes}

pub ascension-size : (p : Row) → nat_abs (ascension p) ≤ 360_000_000
unfolding ascension
ascension-size p = omega (arith, argument-below (cos-a p) (sin-a p))

pub hour_sizes : (k : Radii) → RadiiInRange k → (p : Row) → Accepted p → HourSizes (hour_of k p)
unfolding hour_of elements_of
hour_sizes k i p h =
    let s1 = millions (S1 k) in
    let s2 = millions (S2 k) in
    let one = row.penumbra k i in
    let two = row.central k i in
    record {
      x = omega (arith, row.x-size p h);
      y = omega (arith, row.y-size p h);
      d = arcsine-size _;
      l1 =
          omega (
            arith,
            nat_abs_sum (slope p (S1 k) s1) (foot p (S1 k) s1 k.penumbra),
            row.slope_size p h (S1 k) s1 k.penumbra one,
            row.foot_size p h (S1 k) s1 k.penumbra one,
          );
      l2 =
          omega (
            arith,
            nat_abs_minus (slope p (S2 k) s2) (foot p (S2 k) s2 k.central),
            row.slope_size p h (S2 k) s2 k.central two,
            row.foot_size p h (S2 k) s2 k.central two,
          );
      ascension = ascension-size p;
    }

pub offset-size : (t middle : ℤ) → nat_abs (offset t middle) ≤ 180_000_000
unfolding offset
offset-size t middle =
    let r = reduced (t -ℤ middle +ℤ pos 180_000_000) in
    let l = reduced_below (t -ℤ middle +ℤ pos 180_000_000) in
    nat_abs_by (pos r -ℤ pos 180_000_000) (omega (arith, (sum (pos r) (neg_ℤ (pos 180_000_000))).is, (opposite (pos 180_000_000)).is, l))
    (omega (arith, (sum (pos r) (neg_ℤ (pos 180_000_000))).is, (opposite (pos 180_000_000)).is, l))

pub sine-size : (k : Radii) (p : Row) → Accepted p → nat_abs (elements_of k p).sind ≤ 100_000_000
unfolding elements_of
sine-size k p h = row.sin-d-size p h

-- ---- all rows
-- one value at the seven hours, which the sizes of an hour bound
pub each_sizes : {m : ℕ} (f : Hour → ℤ) (h : Hours) → ((k : Hour) → HourSizes k → nat_abs (f k) ≤ m) → HoursSizes h → HourlySizes m (each f h)
each_sizes f h small s =
    record {
      v0 = small h.h0 s.h0;
      v1 = small h.h1 s.h1;
      v2 = small h.h2 s.h2;
      v3 = small h.h3 s.h3;
      v4 = small h.h4 s.h4;
      v5 = small h.h5 s.h5;
      v6 = small h.h6 s.h6;
    }

pub each_x_sizes : {h : Hours} → HoursSizes h → HourlySizes 100_000_000_000 (each_x h)
each_x_sizes {h} s = each_sizes (λ k. k.x) h (λ k z. z.x) s

pub each_y_sizes : {h : Hours} → HoursSizes h → HourlySizes 100_000_000_000 (each_y h)
each_y_sizes {h} s = each_sizes (λ k. k.y) h (λ k z. z.y) s

pub each_d_sizes : {h : Hours} → HoursSizes h → HourlySizes 100_000_000_000 (each_d h)
each_d_sizes {h} s = each_sizes (λ k. k.d) h (λ k z. omega (arith, z.d)) s

pub each_l1_sizes : {h : Hours} → HoursSizes h → HourlySizes 100_000_000_000 (each_l1 h)
each_l1_sizes {h} s = each_sizes (λ k. k.l1) h (λ k z. omega (arith, z.l1)) s

pub each_l2_sizes : {h : Hours} → HoursSizes h → HourlySizes 100_000_000_000 (each_l2 h)
each_l2_sizes {h} s = each_sizes (λ k. k.l2) h (λ k z. omega (arith, z.l2)) s

pub each-ascension_sizes : {h : Hours} → HoursSizes h → HourlySizes 360_000_000 (each_ascension h)
each-ascension_sizes {h} s = each_sizes (λ k. k.ascension) h (λ k z. z.ascension) s

pub hour_angles_sizes : (g a : Hourly) (middle : ℤ) → HourlySizes 180_000_000 (hour_angles g a middle)
unfolding hour_angles
hour_angles_sizes g a middle =
    record {
      v0 = offset-size _ middle;
      v1 = offset-size _ middle;
      v2 = offset-size _ middle;
      v3 = offset-size _ middle;
      v4 = offset-size _ middle;
      v5 = offset-size _ middle;
      v6 = offset-size _ middle;
    }

pub hours_sizes : (k : Radii) → RadiiInRange k → (t : Rows) → AllAccepted t → HoursSizes (hours_of k t)
unfolding hours_of
hours_sizes k i t h =
    record {
      h0 = hour_sizes k i t.r0 (accepted-is t.r0 h.r0);
      h1 = hour_sizes k i t.r1 (accepted-is t.r1 h.r1);
      h2 = hour_sizes k i t.r2 (accepted-is t.r2 h.r2);
      h3 = hour_sizes k i t.r3 (accepted-is t.r3 h.r3);
      h4 = hour_sizes k i t.r4 (accepted-is t.r4 h.r4);
      h5 = hour_sizes k i t.r5 (accepted-is t.r5 h.r5);
      h6 = hour_sizes k i t.r6 (accepted-is t.r6 h.r6);
    }

pub tanf1_size : (k : Radii) → RadiiInRange k → (p : Row) → Accepted p → nat_abs (elements_of k p).tanf1 ≤ 600_000
unfolding elements_of
tanf1_size k i p h = row.tan-size p h (S1 k) (millions (S1 k)) k.penumbra (row.penumbra k i)

pub tanf2_size : (k : Radii) → RadiiInRange k → (p : Row) → Accepted p → nat_abs (elements_of k p).tanf2 ≤ 600_000
unfolding elements_of
tanf2_size k i p h = row.tan-size p h (S2 k) (millions (S2 k)) k.central (row.central k i)

pub columns_sizes : (h : Hours) (g : Hourly) (middle : ℤ) → HoursSizes h → ColumnsSizes (columnsOf h g middle)
unfolding columnsOf
columns_sizes h g middle s =
    record {
      x = each_sizes (λ k. k.x) h (λ k z. z.x) s;
      y = each_sizes (λ k. k.y) h (λ k z. z.y) s;
      d = each_sizes (λ k. k.d) h (λ k z. omega (arith, z.d)) s;
      l1 = each_sizes (λ k. k.l1) h (λ k z. omega (arith, z.l1)) s;
      l2 = each_sizes (λ k. k.l2) h (λ k z. omega (arith, z.l2)) s;
      mu = hour_angles_sizes g (each_ascension h) middle;
    }

pub fitting_sizes : (k : Radii) → RadiiInRange k → (t : Rows) → AllAccepted t → (g : Hourly) → ColumnsSizes (fitting_of k t g).columns
unfolding fitting_of
fitting_sizes k i t h g = columns_sizes (hours_of k t) g (middleOf (hours_of k t) g) (hours_sizes k i t h)

-- ---- the coefficients of fits
pub cubic_coefficients : (v : Hourly) → HourlySizes 100_000_000_000 v → CoefficientSizes 1_000_000_000_000 (cubic v)
cubic_coefficients v h =
    let s = cubic-sizes v h in
    record { c0 = omega (arith, s.c0); c1 = omega (arith, s.c1); c2 = omega (arith, s.c2); c3 = omega (arith, s.c3) }

pub quadratic_coefficients : (v : Hourly) → HourlySizes 100_000_000_000 v → CoefficientSizes 1_000_000_000_000 (raised (quadratic v))
quadratic_coefficients v h =
    let s = quadratic-sizes v h in
    record { c0 = omega (arith, s.c0); c1 = omega (arith, s.c1); c2 = omega (arith, s.c2); c3 = omega arith }

-- the same of what is such a fit
pub cubic_sized : (c : Cubic) (v : Hourly) → c ≡ cubic v → HourlySizes 100_000_000_000 v → CoefficientSizes 1_000_000_000_000 c
cubic_sized c v e h = subst (CoefficientSizes 1_000_000_000_000) (sym e) (cubic_coefficients v h)

pub raised_sized : (q : Quadratic) (c : Cubic) (v : Hourly) → q ≡ quadratic v → c ≡ raised q → HourlySizes 100_000_000_000 v
    → CoefficientSizes 1_000_000_000_000 c
raised_sized q c v e f h = subst (CoefficientSizes 1_000_000_000_000) (sym (f ∙ ap raised e)) (quadratic_coefficients v h)
