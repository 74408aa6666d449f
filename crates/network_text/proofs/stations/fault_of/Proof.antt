-- `network_text::stations::fault_of` meets its contract: by the test on the word's place.
use Rattle.network_text.specs.laws.StationLaws.{fault-clock, fault-other}
use Rattle.network_text.proofs.stations.fault_of.Statement.{statement}
use Rattle.network_text.proofs.stations.fault_of.Tie as tie

returns : tie.Need-returns-then-k-eq5
returns c = fault-clock c.args.k c.args.fault c.if-k-eq5.true

returns-2 : tie.Need-returns
returns-2 c = fault-other c.args.k c.args.fault c.if-k-eq5.false

pub fault_of_spec : {M : Type 1} → statement M
fault_of_spec = tie.close (tie.spec returns returns-2)
