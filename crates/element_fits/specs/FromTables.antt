-- The 22 elements from seven hourly rows of Sun and Moon, the radii of both, and the sidereal time at Greenwich at these
-- hours. The rule is ours (docs/ELEMENTS.md). Definitions only.
use Rattle.std.specs.Prelude.{ℤ, pos, negsuc, ◌+ℤ◌, ◌-ℤ◌, ◌*ℤ◌}
use Rattle.sine.specs.Sine.{reduced}
use Rattle.besselian_rows.specs.declared.besselian.Row.{Row}
use Rattle.besselian_rows.specs.declared.besselian.Radii.{Radii}
use Rattle.besselian_rows.specs.Rounded as row
use Rattle.elements.specs.declared.Quadratic.{Quadratic}
use Rattle.elements.specs.declared.Elements.{Elements}
use Rattle.element_fits.specs.declared.least_squares.Hourly.{Hourly}
use Rattle.element_fits.specs.LeastSquares.{cubic, quadratic}
use Rattle.element_fits.specs.Angles.{arcsine, argument}
use Rattle.element_fits.specs.declared.Rows.{Rows}
use Rattle.element_fits.specs.declared.Hour.{Hour}
use Rattle.element_fits.specs.declared.Hours.{Hours}
use Rattle.element_fits.specs.declared.Columns.{Columns}
use Rattle.element_fits.specs.declared.Fitting.{Fitting}

-- ---- one row
-- the right ascension of the axis: the angle of its direction on the equator
unfoldable pub ascension : Row → ℤ
ascension p = pos (argument (row.cos-a p) (row.sin-a p))

unfoldable pub hour_of : Radii → Row → Hour
hour_of k p =
    let b = row.elements_of k p in
    record { x = b.x; y = b.y; d = arcsine b.sind; l1 = b.l1; l2 = b.l2; ascension = ascension p }

-- ---- all rows
unfoldable pub hours_of : Radii → Rows → Hours
hours_of k t =
    record {
      h0 = hour_of k t.r0;
      h1 = hour_of k t.r1;
      h2 = hour_of k t.r2;
      h3 = hour_of k t.r3;
      h4 = hour_of k t.r4;
      h5 = hour_of k t.r5;
      h6 = hour_of k t.r6;
    }

-- one value at the seven hours
abbrev pub each : (Hour → ℤ) → Hours → Hourly
each f h = record { v0 = f h.h0; v1 = f h.h1; v2 = f h.h2; v3 = f h.h3; v4 = f h.h4; v5 = f h.h5; v6 = f h.h6 }

abbrev pub each_x : Hours → Hourly
each_x = each (λ h. h.x)

abbrev pub each_y : Hours → Hourly
each_y = each (λ h. h.y)

abbrev pub each_d : Hours → Hourly
each_d = each (λ h. h.d)

abbrev pub each_l1 : Hours → Hourly
each_l1 = each (λ h. h.l1)

abbrev pub each_l2 : Hours → Hourly
each_l2 = each (λ h. h.l2)

abbrev pub each_ascension : Hours → Hourly
each_ascension = each (λ h. h.ascension)

-- ---- the hour angle of the axis at Greenwich
-- sidereal time less right ascension, less 15 degrees an hour
unfoldable pub turn : (g a hour : ℤ) → ℤ
turn g a hour = g -ℤ a -ℤ pos 15_000_000 *ℤ hour

-- from the middle row's, from -180 up to 180 degrees
unfoldable pub offset : (t middle : ℤ) → ℤ
offset t middle = pos (reduced (t -ℤ middle +ℤ pos 180_000_000)) -ℤ pos 180_000_000

-- of all rows
unfoldable pub hour_angles : (g a : Hourly) (middle : ℤ) → Hourly
hour_angles g a middle =
    record {
      v0 = offset (turn g.v0 a.v0 (negsuc 2)) middle;
      v1 = offset (turn g.v1 a.v1 (negsuc 1)) middle;
      v2 = offset (turn g.v2 a.v2 (negsuc 0)) middle;
      v3 = offset (turn g.v3 a.v3 (pos 0)) middle;
      v4 = offset (turn g.v4 a.v4 (pos 1)) middle;
      v5 = offset (turn g.v5 a.v5 (pos 2)) middle;
      v6 = offset (turn g.v6 a.v6 (pos 3)) middle;
    }

-- μ: the fit of these, with the middle row's and 15 degrees an hour put back
unfoldable pub hour_angle : Quadratic → (middle : ℤ) → Quadratic
hour_angle q middle = record { c0 = pos (reduced (middle +ℤ q.c0)); c1 = q.c1 +ℤ pos 15_000_000; c2 = q.c2 }

-- ---- the elements

-- the hour angle of the middle row
unfoldable pub middleOf : Hours → Hourly → ℤ
middleOf h g = turn g.v3 h.h3.ascension (pos 0)

-- what is fitted: six values at the seven hours
unfoldable pub columnsOf : Hours → Hourly → (middle : ℤ) → Columns
columnsOf h g middle =
    record { x = each_x h; y = each_y h; d = each_d h; l1 = each_l1 h; l2 = each_l2 h; mu = hour_angles g (each_ascension h) middle }

-- "x, y: cubics; l1, l2, d, μ: quadratics; tan f: the middle row's"
unfoldable pub fitted : Columns → (middle tanf1 tanf2 : ℤ) → Elements
fitted c middle tanf1 tanf2 =
    record {
      axis = record { x = cubic c.x; y = cubic c.y; d = quadratic c.d; mu = hour_angle (quadratic c.mu) middle };
      penumbra = record { l = quadratic c.l1; tanf = tanf1 };
      central = record { l = quadratic c.l2; tanf = tanf2 };
    }

-- of all rows: the columns, and the elements
unfoldable pub fitting_of : Radii → Rows → Hourly → Fitting
fitting_of k t g =
    let h = hours_of k t in
    let m = middleOf h g in
    let b = row.elements_of k t.r3 in
    let c = columnsOf h g m in
    record { columns = c; elements = fitted c m b.tanf1 b.tanf2 }
