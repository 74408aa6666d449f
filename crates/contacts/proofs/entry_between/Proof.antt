-- One of the three entries, by the tests on the two sides; each is what `between` gives there.
use native.Mathlib.Omega.{arith}
use Rattle.contacts.proofs.Seconds.{graze, enter, leave}
use Rattle.contacts.proofs.entry_between.Statement.{statement}
use Rattle.contacts.proofs.entry_between.Tie as tie

returns : tie.Need-returns-then-was-is
returns c = graze _ _ _ _ c.if-was-is.true (c.requires.2 c.if-was-is.true)

returns-2 : tie.Need-returns-then-was-eq0
returns-2 c = let a = c.args in enter a.was a.is a.from a.to (omega arith) (omega arith)

returns-3 : tie.Need-returns
returns-3 c = let a = c.args in leave a.was a.is a.from a.to (omega arith) (omega arith)

pub entry_between_spec : {M : Type 1} → statement M
entry_between_spec = tie.close (tie.spec returns returns-2 returns-3)
