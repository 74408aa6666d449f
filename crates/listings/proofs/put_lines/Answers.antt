-- `listings::put_lines` meets its contract. The lines of the entries left, once put, give what is to be left
-- (`Laying`). The sheet was read before, so each record is there.
use Rattle.std.proofs.Common.{arith, sym, ◌∙◌}
use mir.Syntax.{w64}
use mir.ValLaws.{to_z-of_z}
use Rattle.listings.specs.laws.ListingLaws.{laying_start, laying-never, laying-bounds, laying-end, laying-more}
use Rattle.listings.proofs.put_lines.Goals as goal

pub loop-entry-init : goal.loop-entry-init
loop-entry-init c = laying_start _ _ _ _ _ _ (omega arith) (omega arith) c.requires

pub returns-in_default : goal.returns-in_default
returns-in_default c =
    absurd (laying-never _ _ _ _ _ _ _ _ _ _ c.loop-entry.invariant _ (sym c.record_at.ensures ∙ c.in_default.is))

pub returns-then-is_end : goal.returns-then-is_end
returns-then-is_end c =
    rw (to_z-of_z w64 c.args.deltat c.ranges.deltat) at
    (laying-end _ _ _ _ _ _ _ _ _ _ c.loop-entry.invariant _ _ (sym c.record_at.ensures ∙ c.in-Ok.is)
    _ c.altitude_for-altitude.ensures _ _ c.put_entry-at.ensures
    _ c.view_after-view.ensures (sym c.is_end.ensures ∙ c.if-is_end.true))

pub loop-entry-smaller : goal.loop-entry-smaller
loop-entry-smaller c =
    let b = laying-bounds _ _ _ _ _ _ _ _ _ _ c.loop-entry.invariant _ _ (sym c.record_at.ensures ∙ c.in-Ok.is)
    _ c.altitude_for-altitude.ensures _ _ c.put_entry-at.ensures in
    omega (arith, b.0, b.1)

pub loop-entry-preserved : goal.loop-entry-preserved
loop-entry-preserved c =
    laying-more _ _ _ _ _ _ _ _ _ _ c.loop-entry.invariant _ _ (sym c.record_at.ensures ∙ c.in-Ok.is)
    _ c.altitude_for-altitude.ensures _ _ c.put_entry-at.ensures
    _ c.view_after-view.ensures (sym c.is_end.ensures ∙ c.if-is_end.false)
