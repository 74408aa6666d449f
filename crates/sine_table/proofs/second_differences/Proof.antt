-- `sine_table::second_differences` meets its contract: the test of `all_right` is computed over the 901 entries that
-- they give.
use borrow.Author.Rules.{rules}
use Rattle.sine_table.proofs.Rule.{right, gives_of}
use Rattle.sine_table.proofs.second_differences.Statement.{statement}
use Rattle.sine_table.proofs.second_differences.Tie as tie

returns : tie.Need-returns
unfolding right
returns c = search (gives_of, rules)

pub second_differences_spec : {M : Type 1} → statement M
second_differences_spec = tie.close (tie.spec returns)
