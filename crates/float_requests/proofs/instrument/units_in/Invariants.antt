-- with i doubles read, each of them has its units
use Rattle.std.proofs.Common.{◌≡◌, ◌<◌, ℕ, pos, length, get_or}
use Rattle.float_requests.specs.laws.ScaleLaws.{units_held}
use Rattle.float_requests.proofs.instrument.units_in.Given as goal

abbrev pub invariant-loop-i : goal.invariant-loop-i
invariant-loop-i l =
    record {
      count : length l.units ≡ 22;
      read : (k : ℕ) → k < l.i → get_or l.units k (pos 0) ≡ units_held l.xs k;
    }
