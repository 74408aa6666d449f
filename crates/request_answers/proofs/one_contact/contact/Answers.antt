-- `request_answers::one_contact::contact` meets its contract: the two hundredths are read back from their bits.
use Rattle.std.proofs.Common.{rules, ◌≡◌, ap, ◌∙◌, w64, to_z, of_z, ℤ, Result}
use Rattle.sheet_types.specs.declared.refusals.Refusal.{Refusal}
use Rattle.request_answers.specs.Contacts.{contact_given, contact_after}
use Rattle.request_answers.proofs.one_contact.contact.Goals as goal

pub returns-clause-given : goal.returns-clause-given
unfolding contact_given
returns-clause-given c =
    let p : to_z w64 (of_z w64 c.in_ok-earlier.earlier) ≡ c.in_ok-earlier.earlier = search rules in
    let q : to_z w64 (of_z w64 c.in_ok-earlier.later) ≡ c.in_ok-earlier.later = search rules in
    rw (p, q) (search rules)

pub returns-clause-numbers : goal.returns-clause-numbers
returns-clause-numbers c = c.put_contact.ensures ∙ ap (λ (x : Result (ℤ × ℤ) Refusal). contact_after x c.args.room.now) (returns-clause-given c)
