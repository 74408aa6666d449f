-- Rows that document 01 gives, for its own table.
use Rattle.std.specs.Prelude.{◌≡◌, pos, negsuc}
use Rattle.sine_table.specs.Table.{S}
use Rattle.sine_table.specs.laws.TableLaws.{entry_0}
use Rattle.sine_table.specs.laws.Rising.{S_rises}
use Rattle.shadow_geometry.specs.Direction.{direction}
use Rattle.shadow_geometry.specs.laws.DirectionLaws.{Rising, direction_diagonal, direction_south}

rising : Rising S
rising = record { none = entry_0; rises = S_rises }

-- "(1,1) gives 450"
pub direction_of_1_1 : direction S (pos 1) (pos 1) ≡ 450
direction_of_1_1 = direction_diagonal S rising

-- "(0,-5) gives 1800"
pub direction_of_0_minus_5 : direction S (pos 0) (negsuc 4) ≡ 1800
direction_of_0_minus_5 = direction_south S rising
