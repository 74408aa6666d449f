-- The sheet of an occultation. Definitions only.
use Rattle.std.specs.Prelude.{List, ℕ}
use Rattle.requests.specs.declared.Occultation.{Occultation}
use Rattle.sheet_format.specs.RecordEntries.{bytes_of}
use Rattle.local_circumstances.specs.Courses.{sheetOf}
use Rattle.local_circumstances.specs.Course.{course_of}

-- its bytes
unfoldable pub sheet_bytes : Occultation → List ℕ
sheet_bytes o = bytes_of (sheetOf (course_of o))
