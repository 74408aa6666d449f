-- `circumstances::writing::lengths::sheet_length` meets its contract: the three parts' lengths are the sheet's.
use native.Mathlib.Omega.{arith}
use borrow.Author.Rules.{rules}
use Rattle.local_circumstances.specs.laws.Lengths.{sheet-length}
use Rattle.local_circumstances.specs.Course.{course_of}
use Rattle.circumstances.specs.WrittenSheet.{sheet_bytes}
use Rattle.circumstances.proofs.writing.lengths.sheet_length.Statement.{statement}
use Rattle.circumstances.proofs.writing.lengths.sheet_length.Tie as tie

returns : tie.Need-returns
unfolding sheet_bytes
returns c =
    omega (
      arith,
      c.size_of-head.ensures.0,
      c.phases_length-phases.ensures.0,
      c.closing_length-closing.ensures.0,
      sheet-length (course_of c.args.o),
    )

pub sheet_length_spec : {M : Type 1} → statement M
sheet_length_spec =
    tie.close
    (tie.spec (λ c κs. search rules) (λ c κs. search rules) (λ c κs. search rules) (λ c. search rules)
    (λ c. search rules) returns)
