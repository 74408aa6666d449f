-- `request_text::instants::in_scale` meets its contract: by the scale's word.
use Rattle.std.specs.Prelude.{Some}
use mathlib.Core.Path.{sym, ap, ◌∙◌}
use Rattle.request_text.specs.laws.InstantLaws.{scale-et, scale-ut, scale-none}
use borrow.Author.Rules.{rules}
use Rattle.request_text.proofs.instants.in_scale.Statement.{statement}
use Rattle.request_text.proofs.instants.in_scale.Tie as tie

returns : tie.Need-returns-then-has_form
returns c = ap Some c.instant_at.ensures ∙ scale-et _ _ _ (sym c.has_form.ensures ∙ c.if-has_form.true)

returns-2 : tie.Need-returns-then-has_form-2
returns-2 c =
    let first = c.before.before.before.before in
    ap Some c.instant_at-then-has_form-2.ensures
    ∙ scale-ut _ _ _ (sym first.has_form.ensures ∙ first.if-has_form.false) (sym c.has_form-2.ensures ∙ c.if-has_form-2.true)

returns-3 : tie.Need-returns
returns-3 c =
    let first = c.before.before.before in
    scale-none _ _ _ (sym first.has_form.ensures ∙ first.if-has_form.false) (sym c.has_form-2.ensures ∙ c.if-has_form-2.false)

pub in_scale_spec : {M : Type 1} → statement M
in_scale_spec =
    tie.close
    (tie.spec (λ c κs. search rules) (λ c κs. search rules) returns (λ c κs. search rules) (λ c κs. search rules) returns-2 returns-3)
