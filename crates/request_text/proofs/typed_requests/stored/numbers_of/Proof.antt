-- `request_text::typed_requests::stored::numbers_of` meets its contract: each field stands in its place.
use borrow.Author.Rules.{rules}
use Rattle.request_text.proofs.typed_requests.stored.numbers_of.Statement.{statement}
use Rattle.request_text.proofs.typed_requests.stored.numbers_of.Tie as tie

returns-2 : tie.Need-returns-in-Some
returns-2 c = rw (c.in-Some.is, c.scale_number-scale.ensures)

pub numbers_of_spec : {M : Type 1} → statement M
numbers_of_spec =
    tie.close
    (tie.spec (λ c. search rules) (λ c. search rules) (λ c κs. search rules) (λ c. search rules) returns-2)
