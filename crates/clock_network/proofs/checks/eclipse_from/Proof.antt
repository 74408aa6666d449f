-- `clock_network::checks::eclipse_from` meets its contract: each number is read from its place.
use lib.IntN.{pos}
use lib.ListN.{get_or}
use borrow.Author.Rules.{rules}
use Rattle.rounding.specs.laws.Code.{read_result}
use Rattle.clock_network.specs.Checks.{eclipse_of}
use Rattle.clock_network.proofs.checks.eclipse_from.Statement.{statement}
use Rattle.clock_network.proofs.checks.eclipse_from.Tie as tie

returns : tie.Need-returns
unfolding eclipse_of
returns c =
    let l = c.before in
    let f = l.before in
    let e = f.before in
    let n = e.args.n.now in
    rw (
      e.from_numbers-elements.ensures,
      read_result (get_or n 22 (pos 0)) f.first-1.given,
      read_result (get_or n 23 (pos 0)) l.last-1.given,
      read_result (get_or n 24 (pos 0)) c.guard-1.given,
    )

pub eclipse_from_spec : {M : Type 1} → statement M
eclipse_from_spec =
    tie.close
    (tie.spec (λ c κs. search rules) (λ c. search rules) (λ c. search rules) (λ c. search rules) returns)
