-- `listings::sky::seen_after` meets its contract: each arm is a row of its definition.
use borrow.Author.Rules.{rules}
use Rattle.listings.proofs.sky.seen_after.Statement.{statement}
use Rattle.listings.proofs.sky.seen_after.Tie as tie

returns : tie.Need-returns-in-Nothing
returns c = rw c.in-Nothing.is

returns-2 : tie.Need-returns-in-Above
returns-2 c = rw c.in-Above.is

returns-3 : tie.Need-returns-in-Nothing-view
returns-3 c = rw (c.in-Below.is, c.in-Nothing-view.is)

returns-4 : tie.Need-returns-in-Below-view
returns-4 c = rw (c.in-Below.is, c.in-Below-view.is)

returns-5 : tie.Need-returns-in-Above-view
returns-5 c = rw (c.in-Below.is, c.in-Above-view.is)

pub seen_after_spec : {M : Type 1} → statement M
seen_after_spec = tie.close (tie.spec (λ c. search rules) (λ c. search rules) (λ c. search rules) (λ c. search rules) (λ c. search rules) (λ c. search rules) returns returns-2 returns-3 returns-4 returns-5)
