-- `request_text::fit` meets its contract: the bytes hold the number, or do not.
use Rattle.std.specs.Prelude.{Ok, Some}
use mathlib.Core.Path.{◌≡◌, sym, ap, ◌∙◌}
use mathlib.Core.Bool.{Bool}
use borrow.Author.Rules.{rules}
use mir.Syntax.{w64}
use mir.Val.{to_z, of_z}
use Rattle.rounding.specs.laws.Code.{read_result}
use Rattle.request_format.specs.Fields.{holds}
use Rattle.request_text.specs.Lines.{with_sign}
use Rattle.request_text.specs.laws.LineLaws.{fitted-in, fitted-out}
use Rattle.request_text.proofs.fit.Statement.{statement}
use Rattle.request_text.proofs.fit.Tie as tie

-- the number, as it is handed over
same : (c : tie.After-with_sign-value) → to_z w64 (of_z w64 c.with_sign-value.result) ≡ with_sign c.args.minus c.args.n
same c = read_result c.with_sign-value.result c.with_sign-value.type_inv ∙ c.with_sign-value.ensures

tested : (c : tie.After-holds-holds) (b : Bool) → c.holds-holds.result ≡ b
    → holds c.args.width (with_sign c.args.minus c.args.n) ≡ b
tested c b e = ap (holds c.args.width) (sym (same c.before)) ∙ sym c.holds-holds.ensures ∙ e

returns : tie.Need-returns-then-not-holds
returns c = fitted-out _ _ _ _ (tested c.before _ c.if-not-holds.true)

returns-2 : tie.Need-returns
returns-2 c =
    ap (λ x. Ok (Some (c.args.field, x))) (same c.before.before) ∙ fitted-in _ _ _ _ (tested c.before _ c.if-not-holds.false)

pub fit_spec : {M : Type 1} → statement M
fit_spec = tie.close (tie.spec (λ c κs. search rules) (λ c κs. search rules) returns returns-2)
