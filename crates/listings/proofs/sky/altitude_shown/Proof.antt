-- `listings::sky::altitude_shown` meets its contract: each arm is a row of its definition.
use borrow.Author.Rules.{rules}
use Rattle.listings.proofs.sky.altitude_shown.Statement.{statement}
use Rattle.listings.proofs.sky.altitude_shown.Tie as tie

returns : tie.Need-returns-in-Nothing
returns c = rw c.in-Nothing.is

returns-2 : tie.Need-returns-in-InstantLine
returns-2 c = rw c.in-InstantLine.is

returns-3 : tie.Need-returns-in-Times
returns-3 c = rw c.in-Times.is c.altitude_of.ensures

pub altitude_shown_spec : {M : Type 1} → statement M
altitude_shown_spec = tie.close (tie.spec (λ c. search rules) (λ c. search rules) (λ c. search rules) (λ c κs. search rules) returns returns-2 returns-3)
