-- `request_answers::one_second::wish` meets its contract, shape by shape.
use mathlib.Core.Path.{sym, ap, ◌∙◌}
use borrow.Author.Rules.{rules}
use Rattle.request_format.specs.Input.{eclipse_asked}
use Rattle.request_answers.specs.Second.{wish}
use Rattle.request_answers.proofs.one_second.wish.Statement.{statement}
use Rattle.request_answers.proofs.one_second.wish.Tie as tie

returns : tie.Need-returns-in-Eclipse
returns c =
    let a = c.args in
    c.of_eclipse.ensures ∙ ap eclipse_asked c.request.ensures
    ∙ sym (ap (λ s. wish s a.request.now) c.in-Eclipse.is)

returns-2 : tie.Need-returns-in-Star
returns-2 c =
    let a = c.args in
    c.asked.ensures ∙ sym (ap (λ s. wish s a.request.now) c.in-Star.is)

pub wish_spec : {M : Type 1} → statement M
wish_spec =
    tie.close
    (tie.spec (λ c. search rules) (λ c κs. search rules) (λ c κs. search rules) (λ c. search rules)
    (λ c κs. search rules) returns returns-2)
