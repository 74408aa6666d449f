-- When elements are made, and what they then say at the seven hours. Definitions only; `Meaning` proves both.
use Rattle.std.specs.Prelude.{◌≡◌, true, List, ℕ, ◌≤◌, ◌<◌, ℤ, pos, nat_abs, ◌-ℤ◌, ◌*ℤ◌, ◌≤ℤ◌, length, Ok}
use Rattle.rounding.specs.Limits.{EachInRange}
use Rattle.elements.specs.Elements.{elements_checked}
use Rattle.elements.specs.Polynomial.{quadratic_at, cubic_at}
use Rattle.fits.specs.Fits.{second}
use Rattle.besselian_rows.specs.Exact.{accepted}
use Rattle.besselian_rows.specs.Tables.{rowAt}
use Rattle.element_fits.specs.declared.least_squares.Hourly.{Hourly}
use Rattle.element_fits.specs.LeastSquares.{cubic, quadratic}
use Rattle.element_fits.specs.declared.Columns.{Columns}
use Rattle.element_fits.specs.declared.Hours.{Hours}
use Rattle.element_fits.specs.declared.Fits.{Fits}
use Rattle.element_fits.specs.FromTables.{hours_of, each_x, each_y, each_d, each_l1, each_l2, fitting_of}
use Rattle.element_fits.specs.Answers.{misfit, raised, misfits_of}
use Rattle.element_fits.specs.Numbers.{rows_of, hourly_of, radii_of, tolerance_ranges, given_ranges}

-- ---- when they are made

-- each misfit is at most the tolerance
pub record AllClose (c : Columns) (tolerance : ℕ) : Type 0 where
  pub x : misfit (cubic c.x) c.x ≤ tolerance
  pub y : misfit (cubic c.y) c.y ≤ tolerance
  pub d : misfit (raised (quadratic c.d)) c.d ≤ tolerance
  pub l1 : misfit (raised (quadratic c.l1)) c.l1 ≤ tolerance
  pub l2 : misfit (raised (quadratic c.l2)) c.l2 ≤ tolerance
  pub mu : misfit (raised (quadratic c.mu)) c.mu ≤ tolerance

-- of these numbers and buffers the elements and misfits are f: "elements are made exactly where nothing is refused"
pub record Acceptable (n g k : List ℤ) (tolerance : ℤ) (table : List ℕ) (most least : ℕ) (f : Fits) : Type 0 where
  pub rows : length n ≡ 42
  pub sidereal : length g ≡ 7
  pub radii : length k ≡ 3
  pub stated : EachInRange (tolerance_ranges tolerance)
  pub ranged : EachInRange (given_ranges g k)
  pub taken : (i : ℕ) → i < 7 → accepted (rowAt n i) ≡ true
  -- the buffers: for table S, for the elements, for the misfits
  pub sines : 901 ≤ length table
  pub is :
      let made = fitting_of (radii_of k) (rows_of n) (hourly_of g) in
      f ≡ record { elements = made.elements; misfits = misfits_of made.columns }
  pub within : elements_checked f.elements ≡ Ok tt
  pub close : AllClose (fitting_of (radii_of k) (rows_of n) (hourly_of g)).columns (nat_abs tolerance)
  pub room : 22 ≤ most
  pub second : 6 ≤ least

-- ---- what they say at the seven hours

-- a value, a function of the second, is within m of each of seven
pub record Within (m : ℤ) (at : ℤ → ℤ) (v : Hourly) : Type 0 where
  pub v0 : pos (nat_abs (at (second 0) -ℤ v.v0)) ≤ℤ m
  pub v1 : pos (nat_abs (at (second 1) -ℤ v.v1)) ≤ℤ m
  pub v2 : pos (nat_abs (at (second 2) -ℤ v.v2)) ≤ℤ m
  pub v3 : pos (nat_abs (at (second 3) -ℤ v.v3)) ≤ℤ m
  pub v4 : pos (nat_abs (at (second 4) -ℤ v.v4)) ≤ℤ m
  pub v5 : pos (nat_abs (at (second 5) -ℤ v.v5)) ≤ℤ m
  pub v6 : pos (nat_abs (at (second 6) -ℤ v.v6)) ≤ℤ m

-- an angle a is within m of b and some whole turns
pub record TurnsApart (m a b : ℤ) : Type 0 where
  pub turns : ℤ
  pub close : pos (nat_abs (a -ℤ b -ℤ pos 360_000_000 *ℤ turns)) ≤ℤ m

-- of the hour angle of the axis at Greenwich: sidereal time less right ascension
pub record WithinTurns (m : ℤ) (at : ℤ → ℤ) (g : Hourly) (h : Hours) : Type 0 where
  pub v0 : TurnsApart m (at (second 0)) (g.v0 -ℤ h.h0.ascension)
  pub v1 : TurnsApart m (at (second 1)) (g.v1 -ℤ h.h1.ascension)
  pub v2 : TurnsApart m (at (second 2)) (g.v2 -ℤ h.h2.ascension)
  pub v3 : TurnsApart m (at (second 3)) (g.v3 -ℤ h.h3.ascension)
  pub v4 : TurnsApart m (at (second 4)) (g.v4 -ℤ h.h4.ascension)
  pub v5 : TurnsApart m (at (second 5)) (g.v5 -ℤ h.h5.ascension)
  pub v6 : TurnsApart m (at (second 6)) (g.v6 -ℤ h.h6.ascension)

-- "every element's value by document 01's rule at each of the seven hours differs from the row's own value by at most the
-- misfit reported"
pub record AtHours (n g k : List ℤ) (f : Fits) : Type 0 where
  pub x : Within f.misfits.x (cubic_at f.elements.axis.x) (each_x (hours_of (radii_of k) (rows_of n)))
  pub y : Within f.misfits.y (cubic_at f.elements.axis.y) (each_y (hours_of (radii_of k) (rows_of n)))
  pub d : Within f.misfits.d (quadratic_at f.elements.axis.d) (each_d (hours_of (radii_of k) (rows_of n)))
  pub l1 : Within f.misfits.l1 (quadratic_at f.elements.penumbra.l) (each_l1 (hours_of (radii_of k) (rows_of n)))
  pub l2 : Within f.misfits.l2 (quadratic_at f.elements.central.l) (each_l2 (hours_of (radii_of k) (rows_of n)))
  pub mu : WithinTurns f.misfits.mu (quadratic_at f.elements.axis.mu) (hourly_of g) (hours_of (radii_of k) (rows_of n))
