-- The sizes that the code takes: those of elements, a place and a guard within their ranges, and some more.
use Rattle.std.specs.Prelude.{◌≤◌, nat_abs}
use Rattle.elements.specs.Sizes.{AxisSizes, ConeSizes}
use Rattle.station.specs.Sizes.{PlaceSizes}
use Rattle.contact_times.specs.declared.hundredths.Crossing.{Crossing}

pub record CrossingSizes (c : Crossing) : Type 0 where
  pub axis : AxisSizes 90000000 c.axis
  pub cone : ConeSizes 60000000 c.cone
  pub place : PlaceSizes c.place
  pub guard : nat_abs c.guard ≤ 1000
