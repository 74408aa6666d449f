-- `network_text::add` meets its contract: the station is stored where it fits, and counted.
use borrow.Author.Rules.{rules}
use borrow.Author.Tests.{lt-ltb, le-ltb}
use Rattle.network_text.proofs.add.Statement.{statement}
use Rattle.network_text.proofs.add.Tie as tie

returns : tie.Need-returns-then-count-lt64
returns c = rw (c.put-g.ensures, lt-ltb _ _ c.if-count-lt64.true)

returns-2 : tie.Need-returns
returns-2 c = rw (le-ltb _ _ c.if-count-lt64.false)

pub add_spec : {M : Type 1} → statement M
add_spec = tie.close (tie.spec (λ c κs. search rules) (λ c. search rules) returns (λ c. search rules) returns-2)
