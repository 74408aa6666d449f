-- `besselian_rows::tables::row_at` meets its contract: six numbers from 6i on.
use borrow.Author.Rules.{rules}
use Rattle.besselian_rows.proofs.laws.TablesLaws.{row_in}
use Rattle.besselian_rows.proofs.tables.row_at.Statement.{statement}
use Rattle.besselian_rows.proofs.tables.row_at.Tie as tie

returns : tie.Need-returns
returns c =
    let s = c.before.before.before.before.before.before.before in
    rw (← row_in s.args.rows.now s.args.i) (search rules)

pub row_at_spec : {M : Type 1} → statement M
row_at_spec =
    tie.close
    (tie.spec (λ c. search rules) (λ c. search rules) (λ c. search rules) (λ c. search rules)
    (λ c. search rules) (λ c. search rules) (λ c. search rules) (λ c. search rules) (λ c. search rules)
    (λ c. search rules) (λ c. search rules) (λ c. search rules) returns)
