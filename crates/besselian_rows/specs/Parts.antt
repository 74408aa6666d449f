-- What the parts of a row's computation give.
use Rattle.std.specs.Prelude.{◌≡◌, Bool, ◌||◌, ℕ, ◌≤◌, ℤ, neg_ℤ, nat_abs}
use Rattle.std.specs.Int.Signed.{lt_z}
use Rattle.besselian_rows.specs.declared.besselian.Row.{Row}
use Rattle.besselian_rows.specs.Rounded as v
use Rattle.besselian_rows.specs.declared.rows.Axis.{Axis}
use Rattle.besselian_rows.specs.declared.rows.Directions.{Directions}
use Rattle.besselian_rows.specs.declared.rows.Plane.{Plane}
use Rattle.besselian_rows.specs.declared.rows.Cone.{Cone}

-- x is farther than m
unfoldable pub beyond : ℤ → ℤ → Bool
beyond x m = lt_z x (neg_ℤ m) || lt_z m x

pub record IsAxis (p : Row) (a : Axis) : Type 0 where
  pub gx : a.gx ≡ v.gx p
  pub gy : a.gy ≡ v.gy p
  pub gz : a.gz ≡ v.gz p
  pub flat : a.flat ≡ v.flat p
  pub whole : a.whole ≡ v.whole p

pub record IsDirections (p : Row) (d : Directions) : Type 0 where
  pub r : d.r ≡ v.r p
  pub n : d.n ≡ v.R p
  pub cosa : d.cosa ≡ v.cos-a p
  pub sina : d.sina ≡ v.sin-a p
  pub sind : d.sind ≡ v.sin_d p
  pub cosd : d.cosd ≡ v.cos_d p

pub record IsPlane (p : Row) (f : Plane) : Type 0 where
  pub x : f.x ≡ v.x p
  pub y : f.y ≡ v.y p
  pub z : f.z ≡ v.z p

-- what a cone is made from: the axis' length squared, its length, and the Moon's z
pub record Given (p : Row) (w n : ℕ) (c : ℤ) : Type 0 where
  pub whole : w ≡ v.whole p
  pub length : n ≡ v.R p
  pub z : c ≡ v.z p

pub record IsCone (p : Row) (S s m : ℕ) (k : Cone) : Type 0 where
  pub tangent : k.tangent ≡ v.tan-f p S s
  pub slope : k.slope ≡ v.slope p S s
  pub foot : k.foot ≡ v.foot p S s m
  pub slope_size : nat_abs k.slope ≤ 117000000
  pub foot_size : nat_abs k.foot ≤ 54600000
