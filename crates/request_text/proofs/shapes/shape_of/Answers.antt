-- `request_text::shapes::shape_of` meets its contract: some line names the radius or none (`shape-by`).
use Rattle.std.proofs.Common.{sym, ◌∙◌, rules, ◌≡◌}
use borrow.Author.Tests.{tests}
use Rattle.std.specs.List.{list_any}
use Rattle.tokens.specs.Text.{lines_of}
use Rattle.std.proofs.lemmas.Iterator.Search.{any_from_yields_List}
use Rattle.std.proofs.lemmas.Iterator.Consumers.{YieldsList-from_first}
use Rattle.request_text.specs.TextLines.{lines_left}
use Rattle.request_text.specs.laws.ShapeLaws.{names_it, shape-by}
use Rattle.request_text.proofs.shapes.shape_of.Goals as goal

pub returns-then-any : goal.returns-then-any
returns-then-any c =
    let told : c.any.result ≡ list_any names_it (lines_of c.args.text.now) =
    any_from_yields_List names_it _ _ _ c.any.ensures.ran (YieldsList-from_first (λ x. x.now) lines_left _ c.of.ensures)
    (λ x b q k. search (rules, tests)) in
    sym (shape-by c.args.text.now ∙ rw (sym told ∙ c.if-any.true))

pub returns-else-any : goal.returns-else-any
returns-else-any c =
    let told : c.any.result ≡ list_any names_it (lines_of c.args.text.now) =
    any_from_yields_List names_it _ _ _ c.any.ensures.ran (YieldsList-from_first (λ x. x.now) lines_left _ c.of.ensures)
    (λ x b q k. search (rules, tests)) in
    sym (shape-by c.args.text.now ∙ rw (sym told ∙ c.if-any.false))
