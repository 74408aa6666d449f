-- `request_format::bytes::kind_stands` meets its contract: each test is a case of the definition.
use borrow.Author.Rules.{rules}
use native.Mathlib.Omega.{arith}
use Rattle.request_format.specs.laws.RowByteLaws.{stands-none, stands-past, stands_here}
use Rattle.request_format.proofs.bytes.kind_stands.Statement.{statement}
use Rattle.request_format.proofs.bytes.kind_stands.Tie as tie

returns : tie.Need-returns-then-kind-eq0
returns c = stands-none _ _ _ c.if-kind-eq0.true

returns-2 : tie.Need-returns-then-s-at
returns-2 c = stands-past _ _ _ c.if-kind-eq0.false c.if-s-at.true

returns-3 : tie.Need-returns
returns-3 c = stands_here _ _ _ c.if-kind-eq0.false (omega (arith, c.if-s-at.false))

pub kind_stands_spec : {M : Type 1} → statement M
kind_stands_spec = tie.close (tie.spec returns returns-2 (λ c. search rules) returns-3)
