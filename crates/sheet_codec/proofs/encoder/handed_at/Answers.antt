-- `sheet_codec::encoder::handed_at` meets its contract. Each sub-answer is its definition's value, so the answer is
-- what `handed_at` computes to.
use Rattle.std.proofs.Common.{arith, sym, ◌∙◌}
use Rattle.sheet_codec.specs.laws.HandedLaws.{handed-cut, handed-named}
use Rattle.sheet_codec.proofs.encoder.handed_at.Goals as goal

pub returns-then-left-lt5 : goal.returns-then-left-lt5
returns-then-left-lt5 c = handed-cut _ _ _ (omega arith)

pub returns-in_default : goal.returns-in_default
returns-in_default c = handed-named _ _ _ _ (omega arith) (sym c.kind_for.ensures ∙ c.in_default.is)

pub returns : goal.returns
returns c = rw c.size_of.ensures.0 (handed-named _ _ _ _ (omega arith) (sym c.kind_for.ensures ∙ c.in-Some.is))
