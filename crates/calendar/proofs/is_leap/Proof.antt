-- `calendar::is_leap` meets its contract: the same tests.
use mathlib.Core.Path.{refl}
use Rattle.calendar.specs.Calendar.{is_leap}
use Rattle.calendar.proofs.is_leap.Statement.{statement}
use Rattle.calendar.proofs.is_leap.Tie as tie

returns : tie.Need-returns
unfolding is_leap
returns c = refl

pub is_leap_spec : {M : Type 1} → statement M
is_leap_spec = tie.close (tie.spec returns)
