-- `listings::sky::view_after` meets its contract: a contact is seen, any other entry changes nothing.
use mathlib.Core.Path.{sym, ap, ◌∙◌}
use Rattle.listings.specs.Sky.{is_contact}
use Rattle.listings.specs.laws.SkyLaws.{view-contact, view-other}
use borrow.Author.Rules.{rules}
use Rattle.listings.proofs.sky.view_after.Statement.{statement}
use Rattle.listings.proofs.sky.view_after.Tie as tie

returns : tie.Need-returns-then-is_contact
returns c =
    let t = c.before.before in
    c.seen_after.ensures ∙ view-contact _ _ _ (sym (ap is_contact t.shown_for-shown.ensures) ∙ sym t.is_contact.ensures ∙ c.if-is_contact.true)

returns-2 : tie.Need-returns
returns-2 c = view-other _ _ _ (sym (ap is_contact c.shown_for-shown.ensures) ∙ sym c.is_contact.ensures ∙ c.if-is_contact.false)

pub view_after_spec : {M : Type 1} → statement M
view_after_spec = tie.close (tie.spec (λ c κs. search rules) (λ c κs. search rules) (λ c κs. search rules) returns returns-2)
