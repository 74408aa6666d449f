-- Bytes of the shape have a star request's numbers (`held`); any other are refused.
use Rattle.std.specs.Prelude.{◌≡◌, Ok, Err}
use Rattle.std.proofs.Common.{rules, arith, sym, ◌∙◌}
use Rattle.std.proofs.Math.Path.{ap}
use Rattle.requests.specs.Requests.{of_star}
use Rattle.sheet_types.specs.Refusals.{refusal}
use Rattle.request_format.specs.declared.fields.Shape.TheVariants.{Star}
use Rattle.request_format.specs.laws.InputLaws.{held, star-held, star_refused}
use Rattle.request_format.proofs.input.stars.asked.Goals as goal

pub returns-in_err-ok_or : goal.returns-in_err-ok_or
returns-in_err-ok_or c =
    let none = c.in_err-ok_or.ensures.ok_part in
    let why : c.in_err-ok_or.field-0.0 ≡ refusal 10 0 = cc (rw none at c.in_err-ok_or.ensures.value) in
    let told : c.from_residual.result ≡ Err c.in_err-ok_or.field-0.0 = search rules in
    told ∙ ap Err why ∙ star_refused _ (sym c.get_star.ensures.answer ∙ none)

pub request_from-q-requires : goal.request_from-q-requires
request_from-q-requires c =
    (held Star _ _ _ (λ i. let b = c.type_inv.input i in omega arith) (sym c.get_star.ensures.answer ∙ c.in_ok-ok_or.ensures.ok_part)
    c.get_star.ensures.numbers).small

pub returns : goal.returns
returns c =
    ap Ok (c.of_star.ensures ∙ ap of_star c.request_from-q.ensures)
    ∙ sym
    (star-held _ _
    (held Star _ _ _ (λ i. let b = c.type_inv.input i in omega arith) (sym c.get_star.ensures.answer ∙ c.in_ok-ok_or.ensures.ok_part)
    c.get_star.ensures.numbers))
