-- `besselian_rows::tables::elements` meets its contract: the answer first, and the values only where they are made.
use Rattle.std.proofs.Common.{sym, ◌∙◌, length}
use Rattle.besselian_rows.proofs.laws.TablesLaws.{made_good, after-made}
use Rattle.besselian_rows.proofs.tables.elements.Goals as goal

pub fill-requires : goal.fill-requires
fill-requires c =
    let g = made_good c.args.rows.now (length c.args.values.now) (sym c.judged.ensures ∙ c.in_ok-judged.was) in
    (g.count, g.whole, g.enough)

pub returns-clause-values : goal.returns-clause-values
returns-clause-values c = (after-made c.args.rows.now c.args.values.now _ (sym c.judged.ensures ∙ c.in_ok-judged.was) c.fill.ensures).0

pub returns-clause-faithful : goal.returns-clause-faithful
returns-clause-faithful c = (after-made c.args.rows.now c.args.values.now _ (sym c.judged.ensures ∙ c.in_ok-judged.was) c.fill.ensures).1
