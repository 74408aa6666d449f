-- with i rows stored, the buffer holds their values before its old numbers
use Rattle.std.proofs.Common.{◌≡◌}
use Rattle.std.proofs.lemmas.List.Edits.{sets}
use Rattle.besselian_rows.specs.Tables.{values_of}
use Rattle.besselian_rows.proofs.tables.fill.Given as goal

abbrev pub invariant-loop-i : goal.invariant-loop-i
invariant-loop-i l = l.values ≡ sets l.fn.values 0 (values_of l.rows l.i)
