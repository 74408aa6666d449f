-- `answers::put_text` meets its contract: each arm has the text of its answer.
use mathlib.Core.Path.{sym}
use mir.Syntax.{w64}
use mir.ValLaws.{to_z-of_z}
use lib.Seq.{length-take-le}
use Rattle.request_answers.specs.laws.SheetLaws.{fits_written}
use Rattle.answers.specs.laws.AnswerLaws.{put_written, put_refused}
use borrow.Author.Rules.{rules}
use Rattle.answers.proofs.put_text.Statement.{statement}
use Rattle.answers.proofs.put_text.Tie as tie

slice-aggregate-put-timed-listing : tie.Need-slice_bounds-put_timed_listing-end
slice-aggregate-put-timed-listing c =
    sym (length-take-le _ _ (fits_written _ _ _ c.in-Ok.is c.requires))

returns : tie.Need-returns-in-Ok
returns c =
    put_written _ _ _ _ _ _ _ _ _ c.in-Ok.is (rw (to_z-of_z w64 c.args.deltat c.ranges.deltat) at c.put_timed_listing.ensures)

returns-2 : tie.Need-returns-in-Err
returns-2 c = put_refused _ _ _ _ _ _ _ _ _ c.in-Err.is c.put_refused.ensures

pub put_text_spec : {M : Type 1} → statement M
put_text_spec =
    tie.close
    (tie.spec (λ c. search rules) slice-aggregate-put-timed-listing (λ c κs. search rules) (λ c. search rules)
    (λ c κs. search rules) (λ c. search rules) returns (λ c. search rules) returns-2)
