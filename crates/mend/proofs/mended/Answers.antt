-- `mend::mended` meets its contract: too long a file, a mended one, or one whose notes do not fit.
use Rattle.std.proofs.Common.{arith, sym, ◌∙◌}
use Rattle.decimal_text.specs.laws.RowLaws.{put_as}
use Rattle.mend.specs.laws.PrintedLaws.{too_long, refused-out, kept-first, notes-first, all_told}
use Rattle.mend.proofs.mended.Goals as goal

pub returns-then-sheets-file-clause-output : goal.returns-then-sheets-file-clause-output
returns-then-sheets-file-clause-output c = (too_long c.args.file.now _ _ c.if-sheets-file.true).0

pub returns-then-sheets-file-clause-error : goal.returns-then-sheets-file-clause-error
returns-then-sheets-file-clause-error c = put_as _ _ _ _ _ _ (too_long c.args.file.now _ _ c.if-sheets-file.true).1 c.put_too_long-end.ensures

pub slice_bounds-put_notes-end : goal.slice_bounds-put_notes-end
slice_bounds-put_notes-end c = (notes-first _ _ _ _ _ _ c.mend-answer.ensures.answer _ _ c.in-Ok.is c.mend-answer.ensures.sheets c.mend-answer.ensures.dropped).1.0

pub slice_bounds-put_notes-end-in-Ok : goal.slice_bounds-put_notes-end-in-Ok
slice_bounds-put_notes-end-in-Ok c = (notes-first _ _ _ _ _ _ c.mend-answer.ensures.answer _ _ c.in-Ok.is c.mend-answer.ensures.sheets c.mend-answer.ensures.dropped).1.1

pub returns-in-Ok-clause-output : goal.returns-in-Ok-clause-output
returns-in-Ok-clause-output c =
    (all_told _ _ _ _ _ _ c.mend-answer.ensures.answer _ _ c.in-Ok.is c.mend-answer.ensures.sheets c.mend-answer.ensures.dropped c.if-sheets-file.false (omega arith) _ _ _
    c.put_notes-end.ensures).0

pub returns-in-Ok-clause-error : goal.returns-in-Ok-clause-error
returns-in-Ok-clause-error c =
    (all_told _ _ _ _ _ _ c.mend-answer.ensures.answer _ _ c.in-Ok.is c.mend-answer.ensures.sheets c.mend-answer.ensures.dropped c.if-sheets-file.false (omega arith) _ _ _
    c.put_notes-end.ensures).1

pub returns-in-Ok-clause-counts : goal.returns-in-Ok-clause-counts
returns-in-Ok-clause-counts c = (kept-first _ _ _ _ _ _ c.mend-answer.ensures.answer _ _ c.in-Ok.is c.mend-answer.ensures.sheets c.mend-answer.ensures.dropped).1

pub returns-in-Err-clause-output : goal.returns-in-Err-clause-output
returns-in-Err-clause-output c = (refused-out _ _ _ c.if-sheets-file.false _ (sym c.in-Err.is ∙ c.mend-answer.ensures.answer)).0

pub returns-in-Err-clause-error : goal.returns-in-Err-clause-error
returns-in-Err-clause-error c = put_as _ _ _ _ _ _ (refused-out _ _ _ c.if-sheets-file.false _ (sym c.in-Err.is ∙ c.mend-answer.ensures.answer)).1 c.put_refused-end.ensures
