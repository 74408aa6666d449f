-- `request_format::fields::holds` meets its contract: in each arm the two tests are those of the width, on a number
-- read back from its bits.
use borrow.Author.Rules.{rules}
use mir.Syntax.{w64}
use mir.ValLaws.{to_z-of_z}
use Rattle.request_format.specs.Fields.{holds}
use Rattle.request_format.proofs.fields.holds.Statement.{statement}
use Rattle.request_format.proofs.fields.holds.Tie as tie

returns : tie.Need-returns-in-Unsigned2
unfolding holds
returns c = rw (c.in-Unsigned2.is, to_z-of_z w64 c.args.n c.ranges.n)

returns-2 : tie.Need-returns-in-Signed2
unfolding holds
returns-2 c = rw (c.in-Signed2.is, to_z-of_z w64 c.args.n c.ranges.n)

returns-3 : tie.Need-returns-in-Signed4
unfolding holds
returns-3 c = rw (c.in-Signed4.is, to_z-of_z w64 c.args.n c.ranges.n)

pub holds_spec : {M : Type 1} → statement M
holds_spec = tie.close (tie.spec (λ c. search rules) (λ c. search rules) (λ c. search rules) returns returns-2 returns-3)
