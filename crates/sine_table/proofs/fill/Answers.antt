-- The sums fill the buffer, and a filled buffer holds table S.
use Rattle.sine_table.specs.laws.RoomLaws.{filled-sines}
use Rattle.sine_table.proofs.fill.Goals as goal

pub returns-clause-sines : goal.returns-clause-sines
returns-clause-sines c = rw c.sum_up.ensures (filled-sines _)
