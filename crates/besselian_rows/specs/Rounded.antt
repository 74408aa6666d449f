-- The elements of a row as they are computed, in 64 bits: the axis in thousands of units, then near and root. Document
-- 02 leaves the way open and limits the errors (`Exact`); the code's promise is this and that.
use Rattle.std.specs.Prelude.{ℕ, ◌+◌, ◌*◌, ◌-◌, ◌/◌, ℤ, pos, nat_abs, ◌+ℤ◌, ◌-ℤ◌, ◌*ℤ◌}
use Rattle.rounding.specs.Near.{near}
use Rattle.rounding.specs.Root.{root}
use Rattle.besselian_rows.specs.declared.besselian.Row.{Row}
use Rattle.besselian_rows.specs.declared.besselian.Radii.{Radii}
use Rattle.besselian_rows.specs.declared.besselian.Besselian.{Besselian}
use Rattle.besselian_rows.specs.Exact.{one, Gx, Gy, Gz, S1, S2}

-- S² in millions, to the nearest
unfoldable pub millions : ℕ → ℕ
millions S = (S * S + 500000) / 1000000

module _ (p : Row) where
  -- the axis, in thousands
  unfoldable pub gx : ℤ
  gx = near (Gx p) (pos 1000)

  unfoldable pub gy : ℤ
  gy = near (Gy p) (pos 1000)

  unfoldable pub gz : ℤ
  gz = near (Gz p) (pos 1000)

  -- the squares of its lengths on the equator and whole, and these lengths
  unfoldable pub flat : ℕ
  flat = nat_abs gx * nat_abs gx + nat_abs gy * nat_abs gy

  unfoldable pub whole : ℕ
  whole = flat + nat_abs gz * nat_abs gz

  unfoldable pub r : ℕ
  r = root flat

  unfoldable pub R : ℕ
  R = root whole

  unfoldable pub cos-a : ℤ
  cos-a = near (gx *ℤ one) (pos r)

  unfoldable pub sin-a : ℤ
  sin-a = near (gy *ℤ one) (pos r)

  unfoldable pub sin_d : ℤ
  sin_d = near (gz *ℤ one) (pos R)

  unfoldable pub cos_d : ℤ
  cos_d = near (pos r *ℤ one) (pos R)

  unfoldable pub x : ℤ
  x = near (p.moony *ℤ cos-a -ℤ p.moonx *ℤ sin-a) one

  -- the Moon along the axis' direction on the equator
  unfoldable pub q : ℤ
  q = near (p.moonx *ℤ cos-a +ℤ p.moony *ℤ sin-a) one

  unfoldable pub y : ℤ
  y = near (p.moonz *ℤ cos_d -ℤ q *ℤ sin_d) one

  unfoldable pub z : ℤ
  z = near (p.moonz *ℤ sin_d +ℤ q *ℤ cos_d) one

  -- a cone: S over the distance is its sine; s is S² in millions
  module _ (S s : ℕ) where
    -- the distance along the cone's edge, in thousands
    unfoldable pub T : ℕ
    T = root (whole - s)

    unfoldable pub tan-f : ℤ
    tan-f = near (pos (S * 100000)) (pos T)

    -- z tan f, and k/cos f
    unfoldable pub slope : ℤ
    slope = near (z *ℤ tan-f) one

    unfoldable pub foot : ℕ → ℤ
    foot k = near (pos k *ℤ pos R) (pos T)

  -- the penumbra, whose l is the sum of the two terms, and the central cone, whose l is their difference
  abbrev pub l1 : (S s k : ℕ) → ℤ
  l1 S s k = slope S s +ℤ foot S s k

  abbrev pub l2 : (S s k : ℕ) → ℤ
  l2 S s k = slope S s -ℤ foot S s k

unfoldable pub elements_of : Radii → Row → Besselian
elements_of k p =
    record {
      x = x p;
      y = y p;
      sind = sin_d p;
      cosd = cos_d p;
      tanf1 = tan-f p (S1 k) (millions (S1 k));
      tanf2 = tan-f p (S2 k) (millions (S2 k));
      l1 = l1 p (S1 k) (millions (S1 k)) k.penumbra;
      l2 = l2 p (S2 k) (millions (S2 k)) k.central;
    }
