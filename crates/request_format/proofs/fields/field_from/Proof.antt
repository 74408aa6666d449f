-- `request_format::fields::field_from` meets its contract: the name and the bytes are those of the row.
use borrow.Author.Rules.{rules}
use Rattle.request_format.specs.laws.Table.{field_from}
use Rattle.request_format.proofs.fields.field_from.Statement.{statement}
use Rattle.request_format.proofs.fields.field_from.Tie as tie

returns : tie.Need-returns
unfolding field_from
returns c = rw (c.name_from-name.ensures, c.width_from-width.ensures)

pub field_from_spec : {M : Type 1} → statement M
field_from_spec =
    tie.close
    (tie.spec (λ c κs. search rules) (λ c. search rules) (λ c. search rules) (λ c. search rules)
    (λ c. search rules) (λ c. search rules) (λ c κs. search rules) (λ c. search rules) returns)
