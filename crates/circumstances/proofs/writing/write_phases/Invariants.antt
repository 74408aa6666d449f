-- With k phases written, the buffer has the bytes of their entries from `start` on.
use Rattle.std.proofs.Common.{◌≡◌, ◌+◌, ℕ, List, length, take}
use Rattle.std.proofs.lemmas.List.Edits.{sets}
use Rattle.shadow_geometry.specs.Shadow.{phases_of}
use Rattle.requests.specs.declared.Occultation.{Occultation}
use Rattle.sheet_format.specs.RecordEntries.{bytes_of}
use Rattle.local_circumstances.specs.Courses.{entriesOf}
use Rattle.local_circumstances.specs.Course.{course_of}
use Rattle.circumstances.proofs.writing.write_phases.Given as goal

-- the bytes of the entries of the first k phases
abbrev pub taken : Occultation → ℕ → List ℕ
taken o k = bytes_of (entriesOf (course_of o) (take k (phases_of o.body)))

abbrev pub invariant-loop-k : goal.invariant-loop-k
invariant-loop-k l = record {
  same_length : length l.buf ≡ length l.initial.buf;
  place : l.at ≡ l.start + length (taken l.o l.k);
  written : l.buf ≡ sets l.initial.buf l.start (taken l.o l.k);
}
