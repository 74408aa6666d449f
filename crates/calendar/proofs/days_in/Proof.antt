-- `calendar::days_in` meets its contract: by the month, and in February by the year.
use mathlib.Core.Path.{sym, ◌∙◌}
use Rattle.calendar.specs.laws.CalendarLaws.{leap-february, february, short-month, long-month}
use borrow.Author.Rules.{rules}
use Rattle.calendar.proofs.days_in.Statement.{statement}
use Rattle.calendar.proofs.days_in.Tie as tie

returns : tie.Need-returns-then-is_leap
returns c = leap-february _ _ c.if-month-eq2.true (sym c.is_leap.ensures ∙ c.if-is_leap.true)

returns-2 : tie.Need-returns-then-month-eq2
returns-2 c = february _ _ c.if-month-eq2.true (sym c.is_leap.ensures ∙ c.if-is_leap.false)

returns-3 : tie.Need-returns-then-month
returns-3 c = short-month _ _ c.if-month-eq2.false c.if-month.true

returns-4 : tie.Need-returns
returns-4 c = long-month _ _ c.if-month-eq2.false c.if-month.false

pub days_in_spec : {M : Type 1} → statement M
days_in_spec = tie.close (tie.spec (λ c κs. search rules) returns returns-2 returns-3 returns-4)
