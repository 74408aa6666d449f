-- `streams::size_from` meets its contract: each way out has the test that led there.
use native.Mathlib.Omega.{arith}
use Rattle.streams.specs.laws.StreamLaws.{eclipse-size, star-size, no_size}
use Rattle.streams.proofs.size_from.Statement.{statement}
use Rattle.streams.proofs.size_from.Tie as tie

returns : tie.Need-returns-then-first-eq2
returns c = (eclipse-size _ c.if-first-eq2.true, (omega arith, omega arith))

returns-2 : tie.Need-returns-then-first-eq5
returns-2 c = (star-size _ c.if-first-eq2.false c.if-first-eq5.true, (omega arith, omega arith))

returns-3 : tie.Need-returns
returns-3 c = (no_size _ c.if-first-eq2.false c.if-first-eq5.false, (omega arith, omega arith))

pub size_from_spec : {M : Type 1} → statement M
size_from_spec = tie.close (tie.spec returns returns-2 returns-3)
