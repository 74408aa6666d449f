-- `calendar::is_day` meets its contract: the same tests.
use Rattle.calendar.specs.Calendar.{is_day}
use borrow.Author.Rules.{rules}
use Rattle.calendar.proofs.is_day.Statement.{statement}
use Rattle.calendar.proofs.is_day.Tie as tie

returns : tie.Need-returns
unfolding is_day
returns c = rw c.days_in-last.ensures

pub is_day_spec : {M : Type 1} → statement M
is_day_spec = tie.close (tie.spec (λ c κs. search rules) returns)
