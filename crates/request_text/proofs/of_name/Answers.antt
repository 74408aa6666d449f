-- The name is found in the table, or nowhere.
use Rattle.std.specs.Prelude.{◌≡◌, Err}
use Rattle.std.proofs.Common.{rules, sym, ◌∙◌}
use Rattle.std.proofs.Math.Path.{ap}
use Rattle.request_text.specs.declared.Fault.TheVariants.{Unknown}
use Rattle.request_text.specs.laws.NameLaws.{found_at}
use Rattle.request_text.specs.laws.LineLaws.{field_none, field_at}
use Rattle.request_text.proofs.of_name.Goals as goal

pub returns-in_err-field : goal.returns-in_err-field
returns-in_err-field c =
    let none = c.in_err-field.ensures.ok_part in
    let told : c.from_residual.result ≡ Err c.in_err-field.field-0.0 = search rules in
    let why : c.in_err-field.field-0.0 ≡ Unknown = cc (rw none at c.in_err-field.ensures.value) in
    told ∙ ap Err why ∙ field_none _ _ (sym c.find.ensures ∙ none)

pub slice_bounds-after-count : goal.slice_bounds-after-count
slice_bounds-after-count c = (found_at _ _ _ _ (sym c.find.ensures ∙ c.in_ok-field.ensures.ok_part)).1

pub slice_bounds-after-start : goal.slice_bounds-after-start
slice_bounds-after-start c = (found_at _ _ _ _ (sym c.find.ensures ∙ c.in_ok-field.ensures.ok_part)).1

pub of_value-requires : goal.of_value-requires
of_value-requires c = (found_at _ _ _ _ (sym c.find.ensures ∙ c.in_ok-field.ensures.ok_part)).0

pub returns : goal.returns
returns c = c.of_value.ensures ∙ field_at _ _ _ _ _ (sym c.find.ensures ∙ c.in_ok-field.ensures.ok_part) c.run-gap.ensures.0
