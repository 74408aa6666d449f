-- What is found from place i on is what is found in all.
use Rattle.std.proofs.Common.{◌≡◌, ◌≤◌, length, drop}
use Rattle.rounding.specs.Limits.{first_out_of_range, rows}
use Rattle.rounding.proofs.first_out_of_range.Given as goal

abbrev pub invariant-loop-i : goal.invariant-loop-i
invariant-loop-i l =
    (l.i ≤ length l.values)
    × (first_out_of_range 0 (rows l.values l.lows l.highs) ≡ first_out_of_range l.i (rows (drop l.i l.values) (drop l.i l.lows) (drop l.i l.highs)))
