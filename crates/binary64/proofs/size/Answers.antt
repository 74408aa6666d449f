-- By the exponent field a double is its digits over a power of two, or too large (Field).
use Rattle.std.proofs.Common.{ℕ, ◌^◌, min, ap, ◌∙◌}
use Rattle.binary64.proofs.Field.{field-zero, field-usual, field-large}
use Rattle.binary64.proofs.size.Goals as goal

pub returns-then-field-eq0 : goal.returns-then-field-eq0
returns-then-field-eq0 c =
    let a = c.args in
    c.scaled.ensures ∙ ap (λ (n : ℕ). min n (2 ^ 63)) (field-zero a.scale a.digits a.field c.if-field-eq0.true)

pub returns-then-field-le1075 : goal.returns-then-field-le1075
returns-then-field-le1075 c =
    let a = c.args in
    c.scaled-then-field-le1075.ensures
    ∙ ap (λ (n : ℕ). min n (2 ^ 63)) (field-usual a.scale a.digits a.field c.if-field-eq0.false c.if-field-le1075.true)

pub returns-else-field-le1075 : goal.returns-else-field-le1075
returns-else-field-le1075 c =
    let a = c.args in
    field-large a.scale a.digits a.field c.if-field-le1075.false c.requires.1
