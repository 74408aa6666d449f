-- The parts that the slices hold are the word's (`Split`).
use Rattle.std.proofs.Common.{◌∙◌, sym}
use Rattle.tokens.specs.laws.NumberLaws.{split, split-other, split-empty, split-fraction, split-units}
use Rattle.tokens.proofs.units_in.Goals as goal

pub returns-then-not-number : goal.returns-then-not-number
returns-then-not-number c =
    let p = split _ _ _ _ c.start-sign.ensures.0 c.run-wholes.ensures.0 c.start-point.ensures.0 in
    split-other _ _ _ _ _ p (sym c.all-number.ensures ∙ c.if-not-number.true)

pub returns-then-wholes-decimals-eq0 : goal.returns-then-wholes-decimals-eq0
returns-then-wholes-decimals-eq0 c =
    let p = split _ _ _ _ c.start-sign.ensures.0 c.run-wholes.ensures.0 c.start-point.ensures.0 in
    split-empty _ _ _ _ _ p (sym c.all-number.ensures ∙ c.if-not-number.false) c.if-wholes-decimals-eq0.true

pub returns-then-not-whole : goal.returns-then-not-whole
returns-then-not-whole c =
    let p = split _ _ _ _ c.start-sign.ensures.0 c.run-wholes.ensures.0 c.start-point.ensures.0 in
    split-fraction _ _ _ _ _ p (sym c.all-number.ensures ∙ c.if-not-number.false) c.if-wholes-decimals-eq0.false
    (sym c.is_whole-whole.ensures ∙ c.if-not-whole.true)

pub returns : goal.returns
returns c =
    let p = split _ _ _ _ c.start-sign.ensures.0 c.run-wholes.ensures.0 c.start-point.ensures.0 in
    split-units _ _ _ _ _ p _ _ (sym c.all-number.ensures ∙ c.if-not-number.false) c.if-wholes-decimals-eq0.false
    (sym c.is_whole-whole.ensures ∙ c.if-not-whole.false) c.append-n.ensures.0 c.append-total.ensures.0
