-- `ukhtvaresh::of_requests::one_contact::ukhtvaresh_contact` meets its contract: the answer of the crate below, as
-- numbers.
use borrow.Author.Rules.{rules}
use mir.Syntax.{w64}
use mir.ValLaws.{to_z-of_z}
use Rattle.request_format.specs.declared.fields.Shape.TheVariants.{Eclipse}
use Rattle.ukhtvaresh.proofs.Contacts.{contact-replied}
use Rattle.ukhtvaresh.proofs.of_requests.one_contact.ukhtvaresh_contact.Statement.{statement}
use Rattle.ukhtvaresh.proofs.of_requests.one_contact.ukhtvaresh_contact.Tie as tie

returns : tie.Need-returns
returns c =
    let said = c.before.before.before.before in
    let start = said.before.before.before.before.before in
    let a = start.args in
    contact-replied Eclipse a.request.now a.sines.now a.bracket.now (to_z-of_z w64 a.phase start.ranges.phase)
    (to_z-of_z w64 a.from start.ranges.from) (to_z-of_z w64 a.to start.ranges.to) c.contact_reply-reply.ensures said.contact-given.ensures

pub ukhtvaresh_contact_spec : {M : Type 1} → statement M
ukhtvaresh_contact_spec = tie.close (tie.spec (λ c κs. search rules) (λ c κs. search rules) (λ c. search rules) (λ c. search rules) returns)
