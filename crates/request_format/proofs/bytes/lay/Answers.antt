-- `request_format::bytes::lay` meets its contract: each turn puts the number that its field holds (`Putting`).
use Rattle.std.proofs.Common.{◌≡◌, arith, rules, sym, ◌∙◌, pos, slice_index_or, w64, to_z, of_z}
use Rattle.request_format.specs.laws.PutLaws.{putting_start, putting-room, putting-unfit, putting-more, putting-end}
use Rattle.request_format.proofs.bytes.lay.Goals as goal

pub loop-k-init : goal.loop-k-init
loop-k-init c = putting_start _ _ _ c.requires.0 c.requires.1

pub returns-then-not-holds : goal.returns-then-not-holds
returns-then-not-holds c =
    let n = slice_index_or c.args.numbers.now c.loop-k.k (pos 0) in
    let same : to_z w64 (of_z w64 n) ≡ n = search rules in
    let told = rw (c.field_at-field.ensures, same) at c.holds.ensures in
    putting-unfit _ _ _ _ _ c.requires.0 c.loop-k.invariant (omega (arith, c.loop-k-test.true, c.requires.0)) (sym told ∙ c.if-not-holds.true)

pub put_field-at-requires : goal.put_field-at-requires
put_field-at-requires c =
    let n = slice_index_or c.args.numbers.now c.loop-k.k (pos 0) in
    let same : to_z w64 (of_z w64 n) ≡ n = search rules in
    let told = rw (c.field_at-field.ensures, same) at c.holds.ensures in
    rw (c.field_at-field.ensures, same)
    (putting-room _ _ _ _ _ c.requires.0 c.loop-k.invariant (omega (arith, c.loop-k-test.true, c.requires.0)), sym told ∙ c.if-not-holds.false)

pub loop-k-preserved : goal.loop-k-preserved
loop-k-preserved c =
    let n = slice_index_or c.args.numbers.now c.loop-k.k (pos 0) in
    let same : to_z w64 (of_z w64 n) ≡ n = search rules in
    let told = rw (c.field_at-field.ensures, same) at c.holds.ensures in
    let put = rw (c.field_at-field.ensures, same) at c.put_field-at.ensures in
    putting-more _ _ _ _ _ c.requires.0 c.loop-k.invariant (omega (arith, c.loop-k-test.true, c.requires.0)) _ _
    (sym told ∙ c.if-not-holds.false) put.0 put.1

pub returns : goal.returns
returns c = putting-end _ _ _ _ _ c.requires.0 c.loop-k.invariant (omega (arith, c.loop-k-test.false, c.requires.0))
