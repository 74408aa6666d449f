-- `request_text::find` meets its contract: the names before name k are not said (`Finding`).
use Rattle.std.proofs.Common.{arith, sym, ◌∙◌, length-take-le}
use Rattle.request_format.specs.laws.RowLaws.{name-room, name-length}
use Rattle.request_text.specs.laws.NameLaws.{finding-start, finding-none, finding-hit, finding-more}
use Rattle.request_text.proofs.find.Goals as goal

pub loop-k-init : goal.loop-k-init
loop-k-init c = finding-start _ _

pub slice_bounds-name-end : goal.slice_bounds-name-end
slice_bounds-name-end c = rw c.field_at-field.ensures (name-room c.args.shape c.loop-k.k)

pub slice_bounds-is_named-end : goal.slice_bounds-is_named-end
slice_bounds-is_named-end c = rw c.field_at-field.ensures (sym (length-take-le _ _ (name-room c.args.shape c.loop-k.k)))

pub returns-then-is_named : goal.returns-then-is_named
returns-then-is_named c =
    let told = rw c.field_at-field.ensures at c.is_named.ensures in
    rw c.field_at-field.ensures
    (finding-hit _ _ _ c.loop-k.invariant (omega (arith, c.loop-k-test.true, c.count_of-k-end.ensures)) _
    (name-length c.args.shape c.loop-k.k) (sym told ∙ c.if-is_named.true))

pub loop-k-preserved : goal.loop-k-preserved
loop-k-preserved c =
    let told = rw c.field_at-field.ensures at c.is_named.ensures in
    finding-more _ _ _ c.loop-k.invariant (omega (arith, c.loop-k-test.true, c.count_of-k-end.ensures)) (sym told ∙ c.if-is_named.false)

pub returns : goal.returns
returns c = finding-none _ _ _ c.loop-k.invariant (omega (arith, c.loop-k-test.false, c.count_of-k-end.ensures))
