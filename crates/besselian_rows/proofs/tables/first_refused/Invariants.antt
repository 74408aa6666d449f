-- what is found from row i on is what is found in all
use Rattle.std.proofs.Common.{◌≡◌, ◌-◌}
use Rattle.besselian_rows.specs.Tables.{first_refused}
use Rattle.besselian_rows.proofs.tables.first_refused.Given as goal

abbrev pub invariant-loop-i : goal.invariant-loop-i
invariant-loop-i l = first_refused l.rows 0 7 ≡ first_refused l.rows l.i (7 - l.i)
