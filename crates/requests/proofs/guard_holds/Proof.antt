-- `requests::guard_holds` meets its contract: the two tests, on a number read back from its bits.
use mir.Syntax.{w64}
use mir.ValLaws.{to_z-of_z}
use Rattle.requests.specs.Requests.{guard_holds}
use Rattle.requests.proofs.guard_holds.Statement.{statement}
use Rattle.requests.proofs.guard_holds.Tie as tie

returns : tie.Need-returns
unfolding guard_holds
returns c = rw (to_z-of_z w64 c.args.g c.ranges.g)

pub guard_holds_spec : {M : Type 1} → statement M
guard_holds_spec = tie.close (tie.spec returns)
