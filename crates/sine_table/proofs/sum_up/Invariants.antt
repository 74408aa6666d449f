-- With k entries in the buffer, `entry` is entry k, and with `step` and the differences from the k-th on it gives the
-- rest of the table.
use Rattle.std.proofs.Common.{drop}
use Rattle.sine_table.specs.Room.{Gives}
use Rattle.sine_table.specs.laws.RoomLaws.{Begun}
use Rattle.sine_table.proofs.sum_up.Given as goal

abbrev pub invariant-loop-k : goal.invariant-loop-k
invariant-loop-k l = Begun l.k l.initial.room l.room × Gives l.k l.entry l.step (drop l.k l.differences)
