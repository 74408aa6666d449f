-- The loop of `sheet_codec::encoder::extent_of_leading_entries`: what the sheet from the n-th entry on gives, with the
-- n entries before it counted, is the answer.
use Rattle.std.proofs.Common.{◌-◌, ◌*◌, ◌≤◌, length}
use Rattle.sheet_codec.specs.Handed.{handed_at, list_sheet}
use Rattle.sheet_codec.proofs.decoder.Counting.{Counting}
use Rattle.sheet_codec.proofs.encoder.extent_of_leading_entries.Given as goal

abbrev pub invariant-loop-entry : goal.invariant-loop-entry
invariant-loop-entry l = record {
  in_list : l.n * 5 ≤ length l.l;
  in_sheet : l.place ≤ l.n * 17;
  counting : Counting (handed_at l.l) (length l.l) (list_sheet l.l) l.p l.n l.place;
}

abbrev pub decreases-loop-entry : goal.decreases-loop-entry
decreases-loop-entry l = length l.l - l.n
