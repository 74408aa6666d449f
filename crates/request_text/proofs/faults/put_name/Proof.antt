-- `request_text::faults::put_name` meets its contract: no name is longer than its field.
use mathlib.Core.Path.{refl, sym, subst}
use Prim.Native.Nat.{◌≤◌}
use native.Mathlib.Omega.{arith}
use lib.ListN.{length}
use lib.Seq.{length-take-le}
use Rattle.request_format.specs.declared.fields.Field.{Field}
use Rattle.request_format.specs.laws.RowLaws.{name-room}
use Rattle.decimal_text.specs.laws.TextLaws.{put_nil}
use Rattle.request_text.specs.laws.MessageLaws.{name_none, name-is, put_as}
use borrow.Author.Rules.{rules}
use Rattle.request_text.proofs.faults.put_name.Statement.{statement}
use Rattle.request_text.proofs.faults.put_name.Tie as tie

room : (c : tie.After-field_at-row) → c.field_at-row.result.1 ≤ length c.field_at-row.result.0
room c = subst (λ (f : Field). f.1 ≤ length f.0) (sym c.field_at-row.ensures) (name-room _ _)

returns : tie.Need-returns-then-count-field
returns c = put_as _ _ _ _ _ _ _ refl (sym (name_none _ _ (omega (arith, c.if-count-field.true, c.count_of-count.ensures)))) (put_nil _ _ (omega arith))

slice-aggregate-put-text : tie.Need-slice_bounds-put_text-end
slice-aggregate-put-text c = sym (length-take-le _ _ (room c.before.before.before))

returns-2 : tie.Need-returns
returns-2 c =
    put_as _ _ _ _ _ _ _ refl (name-is _ _ _ c.field_at-row.ensures)
    c.put_text.ensures

pub put_name_spec : {M : Type 1} → statement M
put_name_spec =
    tie.close
    (tie.spec (λ c κs. search rules) returns (λ c κs. search rules) (λ c. room c.before.before)
    slice-aggregate-put-text (λ c κs. search rules) (λ c. search rules) returns-2)
