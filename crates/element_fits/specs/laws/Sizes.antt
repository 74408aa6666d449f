-- Sizes of what the rows give.
use Rattle.std.specs.Prelude.{◌≡◌, true, ◌≤◌, nat_abs}
use Rattle.besselian_rows.specs.Exact.{accepted}
use Rattle.element_fits.specs.Sizes.{HourlySizes}
use Rattle.element_fits.specs.declared.Rows.{Rows}
use Rattle.element_fits.specs.declared.Hour.{Hour}
use Rattle.element_fits.specs.declared.Hours.{Hours}
use Rattle.element_fits.specs.declared.Columns.{Columns}

-- each row is accepted
pub record AllAccepted (t : Rows) : Type 0 where
  pub r0 : accepted t.r0 ≡ true
  pub r1 : accepted t.r1 ≡ true
  pub r2 : accepted t.r2 ≡ true
  pub r3 : accepted t.r3 ≡ true
  pub r4 : accepted t.r4 ≡ true
  pub r5 : accepted t.r5 ≡ true
  pub r6 : accepted t.r6 ≡ true

pub record HourSizes (h : Hour) : Type 0 where
  pub x : nat_abs h.x ≤ 100_000_000_000
  pub y : nat_abs h.y ≤ 100_000_000_000
  pub d : nat_abs h.d ≤ 45_000_000
  pub l1 : nat_abs h.l1 ≤ 171_600_000
  pub l2 : nat_abs h.l2 ≤ 171_600_000
  pub ascension : nat_abs h.ascension ≤ 360_000_000

-- each hour's
pub record HoursSizes (h : Hours) : Type 0 where
  pub h0 : HourSizes h.h0
  pub h1 : HourSizes h.h1
  pub h2 : HourSizes h.h2
  pub h3 : HourSizes h.h3
  pub h4 : HourSizes h.h4
  pub h5 : HourSizes h.h5
  pub h6 : HourSizes h.h6

-- of the columns: mu lies within half a turn of the middle row's
pub record ColumnsSizes (c : Columns) : Type 0 where
  pub x : HourlySizes 100_000_000_000 c.x
  pub y : HourlySizes 100_000_000_000 c.y
  pub d : HourlySizes 100_000_000_000 c.d
  pub l1 : HourlySizes 100_000_000_000 c.l1
  pub l2 : HourlySizes 100_000_000_000 c.l2
  pub mu : HourlySizes 180_000_000 c.mu
