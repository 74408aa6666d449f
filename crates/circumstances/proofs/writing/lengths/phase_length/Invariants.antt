-- what is counted, with what is left at the cursor, is the whole
use Rattle.std.proofs.Common.{length, ◌+◌, ◌-◌, ◌*◌, ◌≤◌, ◌≡◌}
use Rattle.contacts.specs.Entries.{entries}
use Rattle.run_length.specs.Runs.{decoded}
use Rattle.contacts.specs.Step.{entries_from, At}
use Rattle.local_circumstances.specs.laws.Lengths.{bytes_needed}
use Rattle.circumstances.proofs.writing.lengths.phase_length.Given as goal

abbrev pub invariant-loop-entry : goal.invariant-loop-entry
invariant-loop-entry l = record {
  cursor : At l.k l.runs l.c;
  counted : l.n + bytes_needed l.phase (entries_from (decoded l.k l.runs) l.c.at) ≡ bytes_needed l.phase (entries (decoded l.k l.runs));
  few : l.n ≤ 17 * l.c.at;
}

abbrev pub decreases-loop-entry : goal.decreases-loop-entry
decreases-loop-entry l = length (decoded l.k l.runs) - l.c.at
