-- Bytes of the shape have a request's numbers (`held`); any other are refused.
use Rattle.std.specs.Prelude.{◌≡◌, Ok, Err}
use Rattle.std.proofs.Common.{rules, arith, sym, ◌∙◌}
use Rattle.std.proofs.Math.Path.{ap}
use Rattle.sheet_types.specs.Refusals.{refusal}
use Rattle.request_format.specs.declared.fields.Shape.TheVariants.{Eclipse}
use Rattle.request_format.specs.laws.InputLaws.{held, eclipse-held, input_refused}
use Rattle.request_format.proofs.input.request.Goals as goal

pub returns-in_err-ok_or : goal.returns-in_err-ok_or
returns-in_err-ok_or c =
    let none = c.in_err-ok_or.ensures.ok_part in
    let why : c.in_err-ok_or.field-0.0 ≡ refusal 10 0 = cc (rw none at c.in_err-ok_or.ensures.value) in
    let told : c.from_residual.result ≡ Err c.in_err-ok_or.field-0.0 = search rules in
    told ∙ ap Err why ∙ input_refused _ (sym c.get.ensures.answer ∙ none)

pub request_from-requires : goal.request_from-requires
request_from-requires c =
    (held Eclipse _ _ _ (λ i. let b = c.type_inv.input i in omega arith) (sym c.get.ensures.answer ∙ c.in_ok-ok_or.ensures.ok_part)
    c.get.ensures.numbers).small

pub returns : goal.returns
returns c =
    ap Ok c.request_from.ensures
    ∙ sym
    (eclipse-held _ _
    (held Eclipse _ _ _ (λ i. let b = c.type_inv.input i in omega arith) (sym c.get.ensures.answer ∙ c.in_ok-ok_or.ensures.ok_part)
    c.get.ensures.numbers))
