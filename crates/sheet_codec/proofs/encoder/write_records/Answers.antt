-- `sheet_codec::encoder::write_records` meets its contract. What is still to be put, once put, gives what the pass is
-- to leave (`Passing`). The first pass accepted each entry.
use Rattle.std.proofs.Common.{arith, sym, ◌∙◌}
use Rattle.sheet_codec.proofs.decoder.Passing.{pass-never, pass_fits, pass-end, pass-more}
use Rattle.sheet_codec.proofs.decoder.Answers.{of-bytes, writing-starts}
use Rattle.sheet_codec.specs.laws.HandedLaws.{handed_bounds}
use Rattle.sheet_format.specs.laws.EntryLaws.{length-bytes}
use Rattle.sheet_codec.proofs.encoder.write_records.Goals as goal

pub loop-entry-init : goal.loop-entry-init
loop-entry-init c = record {
  in_list = omega arith;
  in_sheet = omega arith;
  passing = writing-starts _ _ c.requires;
}

pub returns-in_default : goal.returns-in_default
returns-in_default c =
    absurd (pass-never of-bytes c.loop-entry.invariant.passing _ (sym c.handed_at.ensures ∙ c.in_default.is))

pub put-at-requires : goal.put-at-requires
put-at-requires c =
    let there = sym c.handed_at.ensures ∙ c.in-Ok.is in
    let f = pass_fits of-bytes c.loop-entry.invariant.passing _ _ there in omega (arith, f, length-bytes c.in-Ok.entry)

pub returns-then-is_end : goal.returns-then-is_end
returns-then-is_end c =
    c.put-at.ensures.1 ∙ pass-end of-bytes c.loop-entry.invariant.passing _ _ (sym c.handed_at.ensures ∙ c.in-Ok.is)
    (sym c.is_end.ensures ∙ c.if-is_end.true)

pub loop-entry-smaller : goal.loop-entry-smaller
loop-entry-smaller c =
    let b = handed_bounds _ _ _ _ _ (sym c.handed_at.ensures ∙ c.in-Ok.is) in omega (arith, b.0)

pub loop-entry-preserved : goal.loop-entry-preserved
loop-entry-preserved c =
    let there = sym c.handed_at.ensures ∙ c.in-Ok.is in
    let b = handed_bounds _ _ _ _ _ there in
    let put_at = c.put-at.ensures.0 in
    let more = pass-more of-bytes c.loop-entry.invariant.passing _ _ there
    (sym c.is_end.ensures ∙ c.if-is_end.false) (omega (arith, b.0)) in
    record {
      in_list = omega (arith, b.0);
      in_sheet = omega (arith, b.1, b.2);
      passing = rw (c.put-at.ensures.1, put_at) (rw (length-bytes c.in-Ok.entry, b.1) at more);
    }
