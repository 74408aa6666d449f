-- `year_file::lengths::sheet_at` meets its contract: what was read already begins no sheet; else the reader decides.
use Rattle.std.proofs.Common.{sym, ◌∙◌}
use Rattle.year_file.specs.Leading.{found-one, found_none}
use Rattle.year_file.proofs.lengths.sheet_at.Goals as goal

pub returns-then-is_again : goal.returns-then-is_again
returns-then-is_again c = sym (c.is_again.ensures c.if-is_again.true)

pub returns-in-Ok : goal.returns-in-Ok
returns-in-Ok c = found-one c.args.file.now c.args.at _ _ (sym c.in-Ok.is ∙ c.extent_of_leading_sheet-found.ensures)

pub returns-in-Err : goal.returns-in-Err
returns-in-Err c = found_none c.args.file.now c.args.at _ (sym c.in-Err.is ∙ c.extent_of_leading_sheet-found.ensures)
