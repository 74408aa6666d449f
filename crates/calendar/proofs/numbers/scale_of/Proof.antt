-- `calendar::numbers::scale_of` meets its contract, scale by scale.
use Rattle.calendar.specs.laws.NumberLaws.{ephemeris, universal}
use Rattle.calendar.proofs.numbers.scale_of.Statement.{statement}
use Rattle.calendar.proofs.numbers.scale_of.Tie as tie

returns : tie.Need-returns-then-scale-eq1
returns c = ephemeris _ c.if-scale-eq1.true

returns-2 : tie.Need-returns
returns-2 c = universal _ c.if-scale-eq1.false

pub scale_of_spec : {M : Type 1} → statement M
scale_of_spec = tie.close (tie.spec returns returns-2)
