-- `star_sheet::respond` meets its contract: the answer to what was read is the answer to the whole input, and its text
-- stands at the array's start.
use Rattle.std.proofs.Common.{arith}
use Rattle.request_format.specs.declared.fields.Shape.TheVariants.{Star}
use Rattle.answers.specs.laws.Reads.{text_out}
use Rattle.star_sheet.proofs.respond.Goals as goal

pub returns-clause-text : goal.returns-clause-text
returns-clause-text c = text_out Star _ _ _ _ _ _ c.requires.0 (omega arith) (omega arith) (omega arith) c.put_printed-end.ensures c.clipped.ensures.value
