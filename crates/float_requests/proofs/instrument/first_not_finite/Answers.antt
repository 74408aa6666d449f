-- `float_requests::instrument::first_not_finite` meets its contract: each turn looks at one more double.
use Rattle.std.proofs.Common.{arith, sym, ◌∙◌, refl}
use Rattle.float_requests.specs.laws.SearchLaws.{search-found, search-on, search-end}
use Rattle.float_requests.proofs.instrument.first_not_finite.Goals as goal

pub loop-i-init : goal.loop-i-init
loop-i-init c = refl

pub returns-then-not-is_finite : goal.returns-then-not-is_finite
returns-then-not-is_finite c =
    sym (c.loop-i.invariant ∙ search-found c.args.xs.now c.loop-i.i (omega arith) (sym c.is_finite.ensures ∙ c.if-not-is_finite.true))

pub loop-i-preserved : goal.loop-i-preserved
loop-i-preserved c =
    c.loop-i.invariant ∙ search-on c.args.xs.now c.loop-i.i (omega arith) (sym c.is_finite.ensures ∙ c.if-not-is_finite.false)

pub returns : goal.returns
returns c = sym (c.loop-i.invariant ∙ search-end c.args.xs.now c.loop-i.i (omega arith))
