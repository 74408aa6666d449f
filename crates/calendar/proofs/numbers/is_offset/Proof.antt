-- `calendar::numbers::is_offset` meets its contract: the same tests.
use mathlib.Core.Path.{refl}
use Rattle.calendar.specs.Numbers.{is_offset}
use Rattle.calendar.proofs.numbers.is_offset.Statement.{statement}
use Rattle.calendar.proofs.numbers.is_offset.Tie as tie

returns : tie.Need-returns
unfolding is_offset
returns c = refl

pub is_offset_spec : {M : Type 1} → statement M
is_offset_spec = tie.close (tie.spec returns)
