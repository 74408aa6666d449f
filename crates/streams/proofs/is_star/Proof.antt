-- `streams::is_star` meets its contract: no bytes have no first one.
use Rattle.streams.specs.laws.StreamLaws.{none-is-star}
use borrow.Author.Rules.{rules}
use Rattle.streams.proofs.is_star.Statement.{statement}
use Rattle.streams.proofs.is_star.Tie as tie

returns : tie.Need-returns-then-request-eq0
returns c = none-is-star c.args.request.now c.if-request-eq0.true

returns-2 : tie.Need-returns
returns-2 c = search rules

pub is_star_spec : {M : Type 1} → statement M
is_star_spec = tie.close (tie.spec returns (λ c. search rules) returns-2)
