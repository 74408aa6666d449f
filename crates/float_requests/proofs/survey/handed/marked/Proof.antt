-- `float_requests::survey::handed::marked` meets its contract, mark by mark.
use Rattle.float_requests.proofs.laws.HandedLaws.{marked_degrees, marked-hours}
use Rattle.float_requests.proofs.survey.handed.marked.Statement.{statement}
use Rattle.float_requests.proofs.survey.handed.marked.Tie as tie

returns : tie.Need-returns-then-hours-eq0
returns c = marked_degrees c.args.hours c.args.x c.if-hours-eq0.true

returns-2 : tie.Need-returns-else-hours-eq0
returns-2 c = marked-hours c.args.hours c.args.x c.if-hours-eq0.false

pub marked_spec : {M : Type 1} → statement M
marked_spec = tie.close (tie.spec returns returns-2)
