-- `request_text::instants::forms::has_form` meets its contract: each pair of characters fits (`form-pairs`).
use Rattle.std.proofs.Common.{ℕ, sym, ◌∙◌, rules, ne_eqb}
use borrow.Author.Tests.{tests}
use Rattle.std.proofs.lemmas.Iterator.{YieldsList-from_slice, YieldsList-from_zip}
use Rattle.std.proofs.lemmas.Iterator.Search.{all_from_yields_List}
use Rattle.request_text.specs.Forms.{fits}
use Rattle.request_text.specs.laws.FormLaws.{form-short, form-pairs}
use Rattle.request_text.proofs.instants.forms.has_form.Goals as goal

pub returns-then-word-form : goal.returns-then-word-form
returns-then-word-form c =
    all_from_yields_List (λ (p : ℕ × ℕ). fits p.0 p.1) c.all.new.self _ c.all.result c.all.ensures.ran
    (YieldsList-from_zip (YieldsList-from_slice c.args.form.now cc) (YieldsList-from_slice c.args.word.now cc))
    (λ x b q k. search (rules, tests))
    ∙ sym (form-pairs _ _ c.if-word-form.true)

pub returns-else-word-form : goal.returns-else-word-form
returns-else-word-form c = ne_eqb _ _ c.if-word-form.false ∙ form-short _ _ c.if-word-form.false
