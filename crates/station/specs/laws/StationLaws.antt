-- What callers use of a station's refusal.
use Rattle.std.specs.Prelude.{◌≡◌, ◌<◌, Err}
use Rattle.rounding.specs.laws.LimitsLaws.{out_within}
use Rattle.sheet_types.specs.declared.refusals.Refusal.{Refusal}
use Rattle.sheet_types.specs.laws.RefusalLaws.{of_limits_refused}
use Rattle.station.specs.declared.Station.{Station}
use Rattle.station.specs.Station.{ranges, range_of, station_checked}

-- the field of a 3 is one of five
pub field_small : (s : Station) (r : Refusal) → station_checked s ≡ Err r → r.place < 5
unfolding range_of ranges
field_small s r e = out_within 0 (ranges s) r.place (of_limits_refused 3 (range_of s) r e)
