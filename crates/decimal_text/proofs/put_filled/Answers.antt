use Rattle.std.proofs.Common.{◌≡◌, ◌∙◌, pos, get_or, arith}
use Rattle.std.proofs.lemmas.Grind.{common_steps}
use Rattle.rounding.specs.laws.Code.{read_result}
use Rattle.decimal_text.specs.laws.PatternLaws.{filling-turn, filling-end}
use Rattle.decimal_text.proofs.put_filled.Goals as goal

pub loop-x-preserved : goal.loop-x-preserved
loop-x-preserved c =
    let v = c.unwrap_or-v in
    let e : v.result ≡ get_or c.args.numbers.now c.loop-x.k (pos 0) = grind (arith, common_steps) in
    filling-turn _ _ _ _ _ _ _ _ c.loop-x.invariant c.loop-x-test.true _ (read_result v.result v.type_inv ∙ e) _ _ _
    c.put_piece-at.ensures c.number_after-k.ensures

pub returns : goal.returns
returns c = filling-end _ _ _ _ _ _ _ _ c.loop-x.invariant c.loop-x-test.false
