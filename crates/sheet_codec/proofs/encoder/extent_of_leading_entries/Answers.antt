-- `sheet_codec::encoder::extent_of_leading_entries` meets its contract. As `extent_of_leading_sheet`, along the
-- entries of the list.
use Rattle.std.proofs.Common.{arith, sym, ap, ◌∙◌}
use Rattle.sheet_codec.proofs.decoder.Counting.{count-refused, count-disorder, count-unsound, count-end, count-more}
use Rattle.sheet_codec.specs.laws.SheetLaws.{list_start, extent-start}
use Rattle.sheet_codec.specs.laws.HandedLaws.{handed_bounds}
use Rattle.sheet_codec.specs.laws.Passes.{refused_of}
use Rattle.sheet_rules.specs.Rules.{fields_as}
use Rattle.sheet_codec.proofs.encoder.extent_of_leading_entries.Goals as goal

pub loop-entry-init : goal.loop-entry-init
loop-entry-init c = record {
  in_list = omega arith;
  in_sheet = omega arith;
  counting = record { is = rw c.begun-p.ensures (extent-start _ _ (list_start _)) };
}

pub returns-in_default : goal.returns-in_default
returns-in_default c =
    c.refused.ensures ∙ ap refused_of c.in_default.is
    ∙ count-refused c.loop-entry.invariant.counting _ (sym c.handed_at-given.ensures ∙ c.in_default.is)

pub returns-in_default-order_of : goal.returns-in_default-order_of
returns-in_default-order_of c =
    count-disorder c.loop-entry.invariant.counting _ _ (sym c.handed_at-given.ensures ∙ c.in-Ok.is)
    (sym c.order_of.ensures ∙ c.in_default-order_of.is)

pub returns-in_default-fields_of : goal.returns-in_default-fields_of
returns-in_default-fields_of c =
    let asked = ap (λ b. fields_as b c.loop-entry.p c.in-Ok.entry) (sym c.is_plain-plain.ensures)
    ∙ sym c.fields_of.ensures in
    count-unsound c.loop-entry.invariant.counting _ _ (sym c.handed_at-given.ensures ∙ c.in-Ok.is)
    (sym c.order_of.ensures ∙ c.in-Kept.is) (asked ∙ c.in_default-fields_of.is)

pub returns-then-is_end : goal.returns-then-is_end
returns-then-is_end c =
    let asked = ap (λ b. fields_as b c.loop-entry.p c.in-Ok.entry) (sym c.is_plain-plain.ensures)
    ∙ sym c.fields_of.ensures in
    count-end c.loop-entry.invariant.counting _ _ (sym c.handed_at-given.ensures ∙ c.in-Ok.is)
    (sym c.order_of.ensures ∙ c.in-Kept.is) (asked ∙ c.in-Kept-fields_of.is) (sym c.is_end.ensures ∙ c.if-is_end.true)

pub loop-entry-smaller : goal.loop-entry-smaller
loop-entry-smaller c =
    let b = handed_bounds _ _ _ _ _ (sym c.handed_at-given.ensures ∙ c.in-Ok.is) in omega (arith, b.0)

pub loop-entry-preserved : goal.loop-entry-preserved
loop-entry-preserved c =
    let there = sym c.handed_at-given.ensures ∙ c.in-Ok.is in
    let b = handed_bounds _ _ _ _ _ there in
    let asked = ap (λ b. fields_as b c.loop-entry.p c.in-Ok.entry) (sym c.is_plain-plain.ensures)
    ∙ sym c.fields_of.ensures in
    record {
      in_list = omega (arith, b.0);
      in_sheet = omega (arith, b.2);
      counting = rw c.after-p.ensures
          (count-more c.loop-entry.invariant.counting _ _ there (sym c.order_of.ensures ∙ c.in-Kept.is)
          (asked ∙ c.in-Kept-fields_of.is) (sym c.is_end.ensures ∙ c.if-is_end.false) (omega (arith, b.0)));
    }
