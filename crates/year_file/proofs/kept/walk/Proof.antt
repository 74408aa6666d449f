-- `year_file::kept::walk` meets its contract: what is left of the file, kept and noted, gives what is to be left in
-- the buffers (`Walking`).
use Prim.Native.Nat.{◌+◌, ◌-◌, ◌≤◌, ◌<◌}
use mathlib.Core.Path.{◌≡◌, sym, ◌∙◌}
use native.Mathlib.Omega.{arith}
use lib.ListN.{length}
use borrow.Author.Rules.{rules}
use Rattle.year_file.proofs.laws.WalkLaws.{Walking, walking_start, walking-lose, walking-bounds, walking-keep, walking-kept, walking-noted}
use Rattle.year_file.proofs.kept.walk.Statement.{statement}
use Rattle.year_file.proofs.kept.walk.Tie as tie

abbrev invariant-loop : tie.invariant-loop-at
invariant-loop file sheets₀ dropped₀ at₀ lost₀ kept₀ noted₀ sheets dropped at lost kept noted = Walking file sheets₀ dropped₀ sheets dropped at lost kept noted

abbrev decreases-loop : tie.decreases-loop-at
decreases-loop file sheets₀ dropped₀ at₀ lost₀ kept₀ noted₀ sheets dropped at lost kept noted = length file - at

loop-holds : tie.Need-loop-at-init invariant-loop decreases-loop
loop-holds c = walking_start _ _ _ (omega arith) (omega arith)

sheet-at-requires : tie.Need-sheet_at-length-requires invariant-loop decreases-loop
sheet-at-requires c κs = (c.loop-at.invariant.within, c.loop-at.invariant.before)

add-lost : tie.Need-overflow_add-lost invariant-loop decreases-loop
add-lost c = omega (arith, c.loop-at.invariant.before.within)

loop-again : tie.Need-loop-at-preserved-then-length-eq0 invariant-loop decreases-loop
loop-again c =
    walking-lose _ _ _ _ _ _ _ _ _ c.loop-at.invariant c.loop-at-test.true (sym c.if-length-eq0.true ∙ c.sheet_at-length.ensures)

put-stretch-requires : tie.Need-put_stretch-noted-requires invariant-loop decreases-loop
put-stretch-requires c κs = c.loop-at.invariant.before.within

-- the sheet that stands there lies within the file
bounds : (c : tie.Else-length-eq0 invariant-loop decreases-loop)
    → (0 < c.sheet_at-length.result)
    × (c.loop-at.at + c.sheet_at-length.result ≤ length c.args.file.now)
bounds c =
    let h : 0 < c.sheet_at-length.result = omega (arith, c.if-length-eq0.false) in
    (h, walking-bounds _ _ _ _ _ _ _ _ _ c.loop-at.invariant _ c.sheet_at-length.ensures h)

add-end : tie.Need-overflow_add-end invariant-loop decreases-loop
add-end c = let b = bounds c.before.before.before.before in omega arith

sub-put-text : tie.Need-slice_bounds-put_text-count invariant-loop decreases-loop
sub-put-text c = let b = bounds c.before.before.before.before.before in omega arith

part-put-text-start : tie.Need-slice_bounds-put_text-start invariant-loop decreases-loop
part-put-text-start c = let b = bounds c.before.before.before.before.before in omega arith

part-put-text-end : tie.Need-slice_bounds-put_text-end invariant-loop decreases-loop
part-put-text-end c = let b = bounds c.before.before.before.before.before in omega arith

loop-less-2 : tie.Need-loop-at-smaller invariant-loop decreases-loop
loop-less-2 c = let b = bounds c.before.before.before.before.before.before.before.before.before in omega arith

loop-again-2 : tie.Need-loop-at-preserved invariant-loop decreases-loop
loop-again-2 c =
    let t = c.before.before.before.before.before.before.before.before.before in
    let l = t.loop-at in
    let n = t.sheet_at-length.result in
    let e : l.at + n - l.at ≡ n = omega arith in
    walking-keep _ _ _ _ _ _ _ _ _ l.invariant n t.sheet_at-length.ensures (bounds t).0 _ _
    c.put_stretch-noted.ensures _ _ (rw e at c.put_text-kept.ensures)

same_length : tie.Need-shape_of-sheets invariant-loop decreases-loop
same_length c = c.loop-at.invariant.keeping.same

same-length-2 : tie.Need-shape_of-dropped invariant-loop decreases-loop
same-length-2 c = c.put_stretch-noted-2.auto.out ∙ c.loop-at.invariant.noting.same

returns : tie.Need-returns invariant-loop decreases-loop
returns c =
    let t = c.before.before.before.before in (
      walking-kept _ _ _ _ _ _ _ _ _ t.loop-at.invariant t.loop-at-test.false,
      walking-noted _ _ _ _ _ _ _ _ _ t.loop-at.invariant t.loop-at-test.false _ _ c.put_stretch-noted-2.ensures,
    )

pub walk_spec : {M : Type 1} → statement M
walk_spec =
    tie.close
    (tie.spec invariant-loop decreases-loop loop-holds sheet-at-requires (λ c. omega arith) add-lost (λ c. omega arith)
    loop-again put-stretch-requires add-end sub-put-text part-put-text-start part-put-text-end
    (λ c κs. search rules) loop-less-2 loop-again-2 (λ c κs. c.loop-at.invariant.before.within)
    same_length same-length-2 returns)
