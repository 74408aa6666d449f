-- The loop of `listings::put_lines`: the lines of the entries left, once put, give what is to be left (`Laying`).
use Rattle.std.proofs.Common.{◌-◌, length}
use Rattle.listings.specs.laws.ListingLaws.{Laying}
use Rattle.listings.proofs.put_lines.Given as goal

abbrev pub invariant-loop-entry : goal.invariant-loop-entry
invariant-loop-entry l = Laying l.reference l.deltat l.sky l.sheet l.initial.out l.start l.out l.from l.at l.view

abbrev pub decreases-loop-entry : goal.decreases-loop-entry
decreases-loop-entry l = length l.sheet - l.from
