-- Every second of an occultation within its limits is said rightly, and its course is sound: so its sheet is well
-- formed and has demand 3.
use Rattle.std.specs.Prelude.{List, ◌++◌, ℕ, ◌≡◌, refl, length}
use Rattle.requests.specs.declared.Occultation.{Occultation}
use Rattle.requests.specs.WindowLaws.{in-window-size}
use Rattle.requests.specs.RequestLaws.{InLimits}
use Rattle.seconds.proofs.laws.SecondLaws.{each-second}
use Rattle.sheet_rules.specs.Rules.{start}
use Rattle.sheet_codec.specs.Sheets.{sheet, read_sheet}
use Rattle.sheet_codec.specs.laws.WellFormed.{WellFormed}
use Rattle.sheet_codec.specs.RoundTrip.{read_back}
use Rattle.local_circumstances.specs.Courses.{sheetOf}
use Rattle.local_circumstances.specs.Demand3.{EachSecond, Demand3}
use Rattle.local_circumstances.specs.laws.SheetLaws.{kept-sheet}
use Rattle.local_circumstances.proofs.laws.Demand3Laws.{changes-once, ends-exact, turns-alternate}
use Rattle.local_circumstances.specs.Course.{course_of}
use Rattle.local_circumstances.specs.laws.CourseSound.{sound}
use Rattle.circumstances.specs.WrittenSheet.{sheet_bytes}
use Rattle.circumstances.specs.Demand3.{exact_answers}

module _ (o : Occultation) (i : InLimits o) where
  pub said : EachSecond (course_of o) (exact_answers o)
  said φ l τ w = each-second o i τ (in-window-size o.window i.window τ w) φ

  pub kept : WellFormed start (sheetOf (course_of o))
  kept = kept-sheet (course_of o) (sound o i)

  -- a reader finds its entries, whatever stands after it in the buffer
  pub reads_back : (rest : List ℕ) → read_sheet (sheet_bytes o ++ rest) ≡ sheet (sheetOf (course_of o)) (length (sheet_bytes o))
  unfolding sheet_bytes
  reads_back rest = read_back (sheetOf (course_of o)) kept rest

  pub demand3 : (rest : List ℕ) → Demand3 (course_of o) (exact_answers o) (length (sheet_bytes o)) (sheet_bytes o ++ rest)
  demand3 rest =
      record {
        seconds = said;
        found = sheetOf (course_of o);
        read = reads_back rest;
        made = refl;
        changes = changes-once (course_of o) (sound o i) (exact_answers o) said;
        ends = ends-exact (course_of o) (sound o i) (exact_answers o) said;
        alternate = turns-alternate (course_of o) (sound o i) (exact_answers o) said;
      }
