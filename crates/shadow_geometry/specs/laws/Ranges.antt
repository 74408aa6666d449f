-- What the laws of sizes ask of a second: document 01's ranges, of an axis, a place and a second. The errors ask only
-- for the second.
use Rattle.std.specs.Prelude.{◌≤◌, nat_abs}
use Rattle.elements.specs.Sizes.{AxisSizes}
use Rattle.station.specs.Sizes.{PlaceSizes}
use Rattle.shadow_geometry.specs.Shadow.{Moment}

pub record MomentSizes (m : Moment) : Type 0 where
  pub axis : AxisSizes 25000000 m.axis
  pub place : PlaceSizes m.place
  pub τ : nat_abs m.τ ≤ 10800
