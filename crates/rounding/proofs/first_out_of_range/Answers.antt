use Rattle.std.proofs.Common.{sym, ◌∙◌, arith}
use Rattle.rounding.specs.laws.LimitsLaws.{search-low, search-high, search-on, search-end}
use Rattle.rounding.proofs.first_out_of_range.Goals as goal
use Rattle.rounding.proofs.first_out_of_range.Goals.{then-x-lows-via-then-x-lows, then-x-lows-via-else-x-lows+then-highs-i}

pub returns-then-x-lows : goal.returns-then-x-lows
returns-then-x-lows c =
    let a = c.args in
    let i = c.loop-i.i in
    elim c.then-x-lows.branch [
      | then-x-lows-via-then-x-lows w ↦
          sym
          (c.loop-i.invariant.1
          ∙ search-low a.values.now a.lows.now a.highs.now i (omega arith) (omega arith) (omega arith) (omega arith) (omega arith) w.if-x-lows.true)
      | then-x-lows-via-else-x-lows+then-highs-i w ↦
          sym
          (c.loop-i.invariant.1
          ∙ search-high a.values.now a.lows.now a.highs.now i (omega arith) (omega arith) (omega arith) (omega arith) (omega arith)
          w.if-x-lows.false (omega arith) w.if-highs-i.true)
    ]

pub loop-i-preserved : goal.loop-i-preserved
loop-i-preserved c =
    let a = c.args in (
      omega arith,
      c.loop-i.invariant.1
          ∙ search-on a.values.now a.lows.now a.highs.now c.loop-i.i (omega arith) (omega arith) (omega arith) (omega arith) (omega arith)
          c.if-x-lows.false (omega arith) c.if-highs-i.false,
    )

pub returns : goal.returns
returns c =
    let a = c.args in
    sym (c.loop-i.invariant.1 ∙ search-end a.values.now a.lows.now a.highs.now c.loop-i.i (omega arith))
