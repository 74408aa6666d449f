-- A minus before the size of a number below zero, else the size alone.
use Rattle.std.proofs.Common.{◌∙◌, ap, nat_abs, arith}
use mir.Syntax.{w64}
use mir.ValLaws.{to_z-of_z}
use Rattle.rounding.specs.laws.Order.{lt_z_true, lt_z_false}
use Rattle.decimal_text.specs.laws.PatternLaws.{minus-then, no_minus}
use Rattle.decimal_text.proofs.put_signed.Goals as goal

pub returns-then-x-lt0 : goal.returns-then-x-lt0
returns-then-x-lt0 c =
    let e = to_z-of_z w64 c.args.x c.ranges.x in
    let s = c.unsigned_abs-digits.ensures.value ∙ ap nat_abs e in
    minus-then _ _ s (lt_z_true _ _ (rw e at c.if-x-lt0.true)) _ _ _ _ _ _ (omega arith) c.put_byte-next.ensures
    c.put_number.ensures

pub returns : goal.returns
returns c =
    let e = to_z-of_z w64 c.args.x c.ranges.x in
    let s = c.unsigned_abs-digits.ensures.value ∙ ap nat_abs e in
    no_minus _ _ s (lt_z_false _ _ (rw e at c.if-x-lt0.false)) _ _ _ _ c.put_number-2.ensures
