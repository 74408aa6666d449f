-- `network_text::stations::field_of` meets its contract: the station's numbers in their order, and a station's number
-- again.
use native.Mathlib.Omega.{arith}
use borrow.Author.Rules.{rules}
use Rattle.network_text.specs.laws.StationLaws.{field_low, field_clock}
use Rattle.network_text.proofs.stations.field_of.Statement.{statement}
use Rattle.network_text.proofs.stations.field_of.Tie as tie

returns : tie.Need-returns-then-k-lt5
returns c = (field_low _ c.if-k-lt5.true, omega arith)

returns-2 : tie.Need-returns-else-k-lt5
returns-2 c = (field_clock _ c.if-k-lt5.false, omega arith)

pub field_of_spec : {M : Type 1} → statement M
field_of_spec = tie.close (tie.spec (λ c. search rules) returns returns-2)
