-- `request_answers::one_second::put_numbers` meets its contract, shape by shape.
use Rattle.std.specs.Prelude.{Ok}
use mathlib.Core.Path.{sym, ap, ◌∙◌}
use borrow.Author.Rules.{rules}
use Rattle.request_answers.specs.Second.{numbers_after}
use Rattle.request_answers.proofs.one_second.put_numbers.Statement.{statement}
use Rattle.request_answers.proofs.one_second.put_numbers.Tie as tie

put-eclipse-requires : tie.Need-put_eclipse-requires
put-eclipse-requires c κs = rw c.in-Eclipse.is at c.requires

put-star-requires : tie.Need-put_star-requires
put-star-requires c κs = rw c.in-Star.is at c.requires

returns : tie.Need-returns-in-Eclipse
returns c =
    let a = c.args in
    c.put_eclipse.ensures ∙ sym (ap (λ s. numbers_after s (Ok a.second) a.room.now) c.in-Eclipse.is)

returns-2 : tie.Need-returns-in-Star
returns-2 c =
    let a = c.args in
    c.put_star.ensures ∙ sym (ap (λ s. numbers_after s (Ok a.second) a.room.now) c.in-Star.is)

pub put_numbers_spec : {M : Type 1} → statement M
put_numbers_spec =
    tie.close
    (tie.spec (λ c. search rules) put-eclipse-requires (λ c. search rules) put-star-requires
    (λ c. search rules) returns (λ c. search rules) returns-2)
