-- The value decides (`word-told`).
use Rattle.std.specs.Prelude.{◌≡◌, Ok, Err}
use Rattle.std.proofs.Common.{arith, rules, sym, ◌∙◌}
use Rattle.std.proofs.Math.Path.{ap}
use Rattle.std.proofs.lemmas.Grind.{common_steps}
use Rattle.rounding.specs.laws.Code.{read_back}
use Rattle.network_text.specs.declared.Fault.TheVariants as F
use Rattle.network_text.specs.Stations.{word_of}
use Rattle.network_text.specs.laws.StationLaws.{Mapped, word-told, word_small}
use Rattle.network_text.proofs.stations.word_of.Goals as goal

pub returns-in_err-said : goal.returns-in_err-said
returns-in_err-said c =
    let p : Mapped c.args.k c.value_of-line.result c.map_err.result =
    record { fault = λ f. grind (arith, common_steps); kept = λ x. grind (arith, common_steps) } in
    let r : Err c.in_err-said.field-0.0 ≡ word_of c.args.k c.args.word.now =
    word-told _ _ _ _ _ p c.field_of-field.ensures.0 c.value_of-line.ensures _ c.in_err-said.was in
    search (rules, r)

pub returns-in_err-value : goal.returns-in_err-value
returns-in_err-value c =
    let p : Mapped c.args.k c.value_of-line.result c.map_err.result =
    record { fault = λ f. grind (arith, common_steps); kept = λ x. grind (arith, common_steps) } in
    let none = c.in_err-value.ensures.ok_part in
    let why : c.in_err-value.field-0.0 ≡ F.Clock = cc (rw none at c.in_err-value.ensures.value) in
    let r : Err c.in_err-value.field-0.0 ≡ word_of c.args.k c.args.word.now =
    ap Err why ∙ word-told _ _ _ _ _ p c.field_of-field.ensures.0 c.value_of-line.ensures _ (c.in_ok-said.was ∙ ap Ok none) in
    search (rules, r)

pub returns : goal.returns
returns c =
    let p : Mapped c.args.k c.value_of-line.result c.map_err.result =
    record { fault = λ f. grind (arith, common_steps); kept = λ x. grind (arith, common_steps) } in
    let t : Ok c.in_ok-value.value ≡ word_of c.args.k c.args.word.now =
    word-told _ _ _ _ _ p c.field_of-field.ensures.0 c.value_of-line.ensures _ (c.in_ok-said.was ∙ ap Ok c.in_ok-value.ensures.ok_part) in
    rw (read_back c.in_ok-value.value (word_small _ _ c.in_ok-value.value (sym t)) tt) t
