-- with i units written, the buffer begins with their doubles
use Rattle.std.proofs.Common.{◌≡◌, length}
use Rattle.std.proofs.Math.Seq.{paste}
use Rattle.float_requests.specs.Instrument.{scales}
use Rattle.float_requests.specs.Writing.{doubles_in}
use Rattle.float_requests.proofs.instrument.writing.fill.Given as goal

abbrev pub invariant-loop-i : goal.invariant-loop-i
invariant-loop-i l =
    record {
      kept : length l.room ≡ length l.fn.room;
      written : l.room ≡ paste l.fn.room 0 (doubles_in scales l.units) l.i;
    }
