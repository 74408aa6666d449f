-- `clock_network::checks::check_first` meets its contract.
use mathlib.Core.Path.{ap, ◌∙◌}
use borrow.Author.Rules.{rules}
use Rattle.requests.specs.Requests.{of_eclipse, checked}
use Rattle.clock_network.proofs.checks.check_first.Statement.{statement}
use Rattle.clock_network.proofs.checks.check_first.Tie as tie

returns : tie.Need-returns
returns c = c.check.ensures ∙ ap checked (c.of_eclipse-o.ensures ∙ ap of_eclipse c.request-q.ensures)

pub check_first_spec : {M : Type 1} → statement M
check_first_spec = tie.close (tie.spec (λ c. search rules) (λ c κs. search rules) (λ c κs. search rules) (λ c κs. search rules) returns)
