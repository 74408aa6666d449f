-- Each way out is `piece` at the test that led there.
use mir.Syntax.{w64}
use mir.ValLaws.{to_z-of_z}
use Rattle.decimal_text.specs.laws.PatternLaws.{piece-number, piece-self}
use Rattle.decimal_text.proofs.put_piece.Goals as goal

pub returns-then-x-eq35 : goal.returns-then-x-eq35
returns-then-x-eq35 c = piece-number _ _ _ _ _ _ c.if-x-eq35.true _ (to_z-of_z w64 _ c.ranges.v) c.put_signed.ensures

pub returns : goal.returns
returns c = piece-self _ _ _ _ _ _ c.if-x-eq35.false c.put_byte.ensures
