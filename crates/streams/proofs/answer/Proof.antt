-- `streams::answer` meets its contract: both ways have the answer by the first byte.
use mathlib.Core.Path.{sym, ◌∙◌}
use Rattle.streams.specs.laws.StreamLaws.{star-way, eclipse-way}
use borrow.Author.Rules.{rules}
use Rattle.streams.proofs.answer.Statement.{statement}
use Rattle.streams.proofs.answer.Tie as tie

returns : tie.Need-returns-then-is_star
returns c =
    let m = c.star_sheet.ensures in
    let t = c.before.before.before.before.before.before.before in
    star-way _ _ _ _ _ _ (sym t.is_star.ensures ∙ t.if-is_star.true) m.0 m.1.0 m.1.1.0

returns-2 : tie.Need-returns
returns-2 c =
    let m = c.sheet.ensures in
    let t = c.before.before.before.before.before.before.before in
    eclipse-way _ _ _ _ _ _ (sym t.is_star.ensures ∙ t.if-is_star.false) m.0 m.1.0 m.1.1.0

pub answer_spec : {M : Type 1} → statement M
answer_spec =
    tie.close
    (tie.spec (λ c κs. search rules) (λ c κs. search rules) (λ c. search rules) (λ c. search rules) returns
    (λ c κs. search rules) (λ c. search rules) (λ c. search rules) returns-2)
