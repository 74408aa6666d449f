-- what is found from place i on is what is found in all
use Rattle.std.proofs.Common.{◌≡◌, drop}
use Rattle.float_requests.specs.Instrument.{first_not_finite}
use Rattle.float_requests.proofs.instrument.first_not_finite.Given as goal

abbrev pub invariant-loop-i : goal.invariant-loop-i
invariant-loop-i l = first_not_finite 0 l.xs ≡ first_not_finite l.i (drop l.i l.xs)
