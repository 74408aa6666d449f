-- `besselian_rows::tables::fill` meets its contract: row i comes after i of them.
use Rattle.std.proofs.Common.{arith, ◌≡◌, List, ℕ, ◌+◌, ◌*◌, ℤ, refl, ap, ◌∙◌}
use Rattle.std.proofs.lemmas.List.Edits.{sets}
use Rattle.besselian_rows.specs.declared.besselian.Besselian.{Besselian}
use Rattle.besselian_rows.specs.Exact.{document02, accepted}
use Rattle.besselian_rows.specs.Rounded.{elements_of}
use Rattle.besselian_rows.specs.Tables.{rowAt, values_of, eight}
use Rattle.besselian_rows.specs.laws.Sizes.{ranged}
use Rattle.besselian_rows.proofs.laws.TablesLaws.{accepted-at, one_more}
use Rattle.besselian_rows.proofs.tables.fill.Goals as goal

pub loop-i-init : goal.loop-i-init
unfolding values_of
loop-i-init c = refl

pub elements_of-b-requires : goal.elements_of-b-requires
elements_of-b-requires c =
    (ap accepted c.row_at.ensures ∙ accepted-at c.args.rows.now c.loop-i.i c.requires.1 (omega arith), ranged)

one-stored : (start before after n : List ℤ) (i : ℕ) (b : Besselian) → b ≡ elements_of document02 (rowAt n i) → before ≡ sets start 0 (values_of n i)
    → after ≡ sets before (8 * i) (eight b) → after ≡ sets start 0 (values_of n (i + 1))
one-stored start before after n i b e f a = a ∙ rw (e, f) (one_more start n i)

pub loop-i-preserved : goal.loop-i-preserved
loop-i-preserved c =
    one-stored _ c.loop-i.values _ c.args.rows.now c.loop-i.i c.elements_of-b.result
    (c.elements_of-b.ensures.value ∙ ap (elements_of document02) c.row_at.ensures) c.loop-i.invariant c.store.ensures

pub returns : goal.returns
returns c =
    let e : c.loop-i.i ≡ 7 = omega arith in
    c.loop-i.invariant ∙ ap (λ (k : ℕ). sets c.args.values.now 0 (values_of c.args.rows.now k)) e
