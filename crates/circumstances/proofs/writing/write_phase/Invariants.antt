-- what is left at the cursor, stored from `at` on, gives the buffer that all entries give
use Rattle.std.specs.Prelude.{map}
use Rattle.std.proofs.Common.{length, ◌+◌, ◌-◌, ◌≡◌}
use Rattle.std.proofs.lemmas.List.Edits.{sets}
use Rattle.contacts.specs.Entries.{entries}
use Rattle.run_length.specs.Runs.{decoded}
use Rattle.contacts.specs.Step.{entries_from, At}
use Rattle.sheet_format.specs.RecordEntries.{bytes_of}
use Rattle.local_circumstances.specs.Courses.{entry_of}
use Rattle.local_circumstances.specs.Course.{course_of}
use Rattle.local_circumstances.specs.laws.Lengths.{bytes_needed}
use Rattle.circumstances.proofs.writing.write_phase.Given as goal

abbrev pub invariant-loop-entry : goal.invariant-loop-entry
invariant-loop-entry l = record {
  cursor : At l.k l.runs l.c;
  as_long : length l.buf ≡ length l.fn.buf;
  placed : l.at + bytes_needed l.phase (entries_from (decoded l.k l.runs) l.c.at) ≡ l.start + bytes_needed l.phase (entries (decoded l.k l.runs));
  stored :
      sets l.buf l.at (bytes_of (map (entry_of (course_of l.o) l.phase) (entries_from (decoded l.k l.runs) l.c.at)))
      ≡ sets l.fn.buf l.start (bytes_of (map (entry_of (course_of l.o) l.phase) (entries (decoded l.k l.runs))));
}

abbrev pub decreases-loop-entry : goal.decreases-loop-entry
decreases-loop-entry l = length (decoded l.k l.runs) - l.c.at
