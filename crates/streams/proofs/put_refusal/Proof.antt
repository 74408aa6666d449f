-- `streams::put_refusal` meets its contract: after a wrong shape a second line says where.
use mathlib.Core.Path.{sym, ◌∙◌}
use native.Mathlib.Omega.{arith}
use Rattle.streams.specs.laws.StreamLaws.{told-shape, told-other}
use borrow.Author.Rules.{rules}
use Rattle.streams.proofs.put_refusal.Statement.{statement}
use Rattle.streams.proofs.put_refusal.Tie as tie

returns : tie.Need-returns-then-is_shape
returns c =
    let t = c.before.before.before.before in
    told-shape _ _ _ _ _ _ t.put_line-end.ensures (sym t.is_shape.ensures ∙ t.if-is_shape.true) (omega arith) _ _ c.put_stop.ensures

returns-2 : tie.Need-returns
returns-2 c = told-other _ _ _ _ _ _ c.put_line-end.ensures (sym c.is_shape.ensures ∙ c.if-is_shape.false)

pub put_refusal_spec : {M : Type 1} → statement M
put_refusal_spec =
    tie.close
    (tie.spec (λ c κs. search rules) (λ c κs. search rules) (λ c κs. search rules) (λ c. search rules) returns
    (λ c. search rules) returns-2)
