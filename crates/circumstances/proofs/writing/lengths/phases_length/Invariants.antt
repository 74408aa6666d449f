-- With k phases counted, the length is that of their entries.
use Rattle.std.proofs.Common.{◌≡◌, ◌*◌, ◌≤◌, ℕ, length, take}
use Rattle.shadow_geometry.specs.Shadow.{phases_of}
use Rattle.requests.specs.declared.Occultation.{Occultation}
use Rattle.sheet_format.specs.RecordEntries.{bytes_of}
use Rattle.local_circumstances.specs.Courses.{entriesOf}
use Rattle.local_circumstances.specs.Course.{course_of}
use Rattle.circumstances.proofs.writing.lengths.phases_length.Given as goal

-- how many bytes the entries of the first k phases take
abbrev pub taken : Occultation → ℕ → ℕ
taken o k = length (bytes_of (entriesOf (course_of o) (take k (phases_of o.body))))

abbrev pub invariant-loop-k : goal.invariant-loop-k
invariant-loop-k l = record { sum : l.length ≡ taken l.o l.k; small : l.length ≤ 367217 * l.k }
