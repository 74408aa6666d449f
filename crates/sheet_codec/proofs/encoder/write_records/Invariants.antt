-- The loop of `sheet_codec::encoder::write_records`: what is still to be put, once put, gives what the pass is to
-- leave (`Passing`).
use Rattle.std.proofs.Common.{◌-◌, ◌*◌, ◌≤◌, length}
use Rattle.sheet_format.specs.RecordEntries.{bytes_of}
use Rattle.sheet_codec.specs.Handed.{handed_at, list_sheet}
use Rattle.sheet_codec.specs.laws.Passes.{emitted}
use Rattle.sheet_codec.proofs.decoder.Passing.{Passing}
use Rattle.sheet_codec.proofs.encoder.write_records.Given as goal

abbrev pub invariant-loop-entry : goal.invariant-loop-entry
invariant-loop-entry l = record {
  in_list : l.n * 5 ≤ length l.l;
  in_sheet : l.at ≤ l.n * 17;
  passing : Passing (handed_at l.l) (length l.l) bytes_of (emitted (list_sheet l.l) l.initial.buf) l.buf l.n l.at l.at;
}

abbrev pub decreases-loop-entry : goal.decreases-loop-entry
decreases-loop-entry l = length l.l - l.n
