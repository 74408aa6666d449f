-- A station in its ranges, and its place, as sizes: what those who compute on lean on.
use Rattle.std.specs.Prelude.{◌≡◌, ◌≤◌, pos, nat_abs, ◌≤ℤ◌, None}
use Rattle.std.specs.Int.Signed.{le_z_yes}
use Rattle.rounding.specs.laws.LimitsLaws.{each_in_range}
use Rattle.rounding.specs.laws.Order.{≤ℤ_trans, nat_abs_le}
use Rattle.station.specs.declared.Station.{Station}
use Rattle.station.specs.declared.Place.{Place}
use Rattle.station.specs.Station.{ranges, range_of}

pub record StationSizes (s : Station) : Type 0 where
  pub number : (pos 1 ≤ℤ s.number) × (s.number ≤ℤ pos 999)
  pub latitude : nat_abs s.latitude ≤ 90000000
  pub longitude : nat_abs s.longitude ≤ 180000000
  pub height : nat_abs s.height ≤ 9000
  pub deltat : nat_abs s.deltat ≤ 20000

pub station_sizes : (s : Station) → range_of s ≡ None → StationSizes s
unfolding range_of ranges
station_sizes s w =
    let i = each_in_range 0 (ranges s) w in
    record {
      number = i.0;
      latitude = nat_abs_le s.latitude i.1.0.0 i.1.0.1;
      longitude = nat_abs_le s.longitude i.1.1.0.0 i.1.1.0.1;
      height = nat_abs_le s.height (≤ℤ_trans (le_z_yes tt) i.1.1.1.0.0) i.1.1.1.0.1;
      deltat = nat_abs_le s.deltat (≤ℤ_trans (le_z_yes tt) i.1.1.1.1.0.0) i.1.1.1.1.0.1;
    }

-- a place on the spheroid, at any height in range, with a margin; PlaceLaws, place_sizes: every station in its ranges
-- has such a one
pub record PlaceSizes (place : Place) : Type 0 where
  pub r : nat_abs place.r ≤ 101000000
  pub p : nat_abs place.p ≤ 101000000
  pub longitude : nat_abs place.longitude ≤ 200000000
