-- In each quadrant by its row of the page `Quadrants`.
use Rattle.std.proofs.Common.{sym, ◌∙◌, arith}
use Rattle.sine.specs.Quadrants.{second, third, fourth, In}
use Rattle.sine.proofs.laws.QuadrantLaws.{four_quadrants}
use Rattle.sine.proofs.Values.{is-sine, kept, minus}
use Rattle.sine.proofs.sine.Goals as goal

pub returns-then-a-le180000000 : goal.returns-then-a-le180000000
returns-then-a-le180000000 c =
    let q = c.c in
    let i : In second c.args.a = record { from = omega arith; to = omega arith } in
    is-sine (kept q.type_inv q.ensures.value ∙ sym (four_quadrants.holds second c.args.a i).sine-is)

pub returns-then-a-le270000000 : goal.returns-then-a-le270000000
returns-then-a-le270000000 c =
    let q = c.s-then-a-le270000000 in
    let i : In third c.args.a = record { from = omega arith; to = omega arith } in
    is-sine (minus q.result q.ensures.small q.ensures.value ∙ sym (four_quadrants.holds third c.args.a i).sine-is)

pub returns-else-a-le270000000 : goal.returns-else-a-le270000000
returns-else-a-le270000000 c =
    let q = c.c-else-a-le270000000 in
    let i : In fourth c.args.a = record { from = omega arith; to = omega arith } in
    is-sine (minus q.result q.ensures.small q.ensures.value ∙ sym (four_quadrants.holds fourth c.args.a i).sine-is)
