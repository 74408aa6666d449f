-- `request_format::fields::width_from` meets its contract: the letter is that of the test, or another.
use borrow.Author.Tests.{ne_eqb}
use Rattle.request_format.specs.laws.Table.{width_from}
use Rattle.request_format.proofs.fields.width_from.Statement.{statement}
use Rattle.request_format.proofs.fields.width_from.Tie as tie

returns : tie.Need-returns-then-letter-eq117
unfolding width_from
returns c = rw c.if-letter-eq117.true

returns-2 : tie.Need-returns-then-letter-eq50
unfolding width_from
returns-2 c = rw c.if-letter-eq50.true

returns-3 : tie.Need-returns
unfolding width_from
returns-3 c = rw (ne_eqb _ _ c.if-letter-eq117.false, ne_eqb _ _ c.if-letter-eq50.false)

pub width_from_spec : {M : Type 1} → statement M
width_from_spec = tie.close (tie.spec returns returns-2 returns-3)
