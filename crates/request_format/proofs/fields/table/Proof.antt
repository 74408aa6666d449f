-- `request_format::fields::table` meets its contract: the code's rows are the definition's, which is computed.
use borrow.Author.Rules.{rules}
use Rattle.request_format.specs.Rows.{element_rows, alike_rows}
use Rattle.request_format.specs.laws.Table.{tables, width_from, field_from, fields_in}
use Rattle.request_format.proofs.fields.table.Statement.{statement}
use Rattle.request_format.proofs.fields.table.Tie as tie

returns : tie.Need-returns
unfolding fields_in tables field_from width_from element_rows alike_rows
returns c = search rules

pub table_spec : {M : Type 1} → statement M
table_spec = tie.close (tie.spec returns)
