-- `request_format::fields::field_at` meets its contract: the row of the number is read.
use mathlib.Core.Path.{◌≡◌, ap, ◌∙◌}
use mathlib.Core.List.{List}
use Prim.Native.Nat.{ℕ, ◌+◌, ◌-◌, ◌*◌}
use native.Mathlib.Omega.{arith}
use lib.ListN.{take, drop}
use borrow.Author.Rules.{rules}
use Rattle.request_format.specs.declared.fields.Field.{Field}
use Rattle.request_format.specs.Rows.{row_in}
use Rattle.request_format.specs.laws.Table.{field_from}
use Rattle.request_format.specs.laws.TableLaws.{field_in}
use Rattle.request_format.proofs.fields.field_at.Statement.{statement}
use Rattle.request_format.proofs.fields.field_at.Tie as tie

returns : tie.Need-returns
returns c =
    let row = c.row_of-at in
    let table = c.table-table in
    let thirteen : 13 * row.result + 13 - 13 * row.result ≡ 13 = omega arith in
    c.field_from.ensures ∙ ap (λ (n : ℕ). field_from (take n (drop (13 * row.result) table.result))) thirteen
    ∙ field_in 43 table.result row.result row.ensures.0
    ∙ ap (λ (l : List Field). row_in l row.result) table.ensures ∙ row.ensures.1

pub field_at_spec : {M : Type 1} → statement M
field_at_spec =
    tie.close
    (tie.spec (λ c κs. search rules) (λ c. search rules) (λ c κs. search rules) (λ c. search rules)
    (λ c. search rules) (λ c. search rules) (λ c. search rules) (λ c κs. search rules) returns)
