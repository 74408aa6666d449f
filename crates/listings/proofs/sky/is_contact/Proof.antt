-- `listings::sky::is_contact` meets its contract: each arm is a row of its definition.
use borrow.Author.Rules.{rules}
use Rattle.listings.proofs.sky.is_contact.Statement.{statement}
use Rattle.listings.proofs.sky.is_contact.Tie as tie

returns : tie.Need-returns-in-Nothing
returns c = rw c.in-Nothing.is

returns-2 : tie.Need-returns-in-InstantLine
returns-2 c = rw c.in-InstantLine.is

returns-3 : tie.Need-returns-in-Moment
returns-3 c = rw (c.in-Times.is, c.in-Moment.is)

returns-4 : tie.Need-returns-in-Contact
returns-4 c = rw (c.in-Times.is, c.in-Contact.is)

pub is_contact_spec : {M : Type 1} → statement M
is_contact_spec = tie.close (tie.spec (λ c. search rules) (λ c. search rules) (λ c. search rules) (λ c. search rules) (λ c. search rules) returns returns-2 returns-3 returns-4)
