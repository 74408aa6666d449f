-- Its four numbers are the rule's (`parts`), so the laws of the rule bound each product, say that what is taken away is
-- not more than what it is taken from, and give the sine by the sum.
use Rattle.std.proofs.Common.{◌≡◌, ℕ, ◌-◌, ◌/◌, ◌*◌, ◌%◌, ◌≤◌, pos, sym, ap, ◌∙◌, arith}
use mir.Syntax.{w64}
use mir.ValLaws.{to_z_pos}
use Rattle.rounding.specs.Near.{near}
use Rattle.sine_table.specs.Table.{Entry}
use Rattle.sine.specs.FirstQuadrant.{arc, sag}
use Rattle.sine.specs.laws.FirstQuadrantLaws.{Parts, arc-square, s-small, cr-small, sw-small, taken, step_small, first-is}
use Rattle.sine.proofs.first_quadrant.Goals as goal

-- r, where it has just been found
square_small : (c : goal.After-near_unsigned-r) → c.near_unsigned-r.result * c.near_unsigned-r.result ≤ 174_533 * 174_533
unfolding arc
square_small c = arc-square {b = c.args.a % 100_000} (omega arith) c.near_unsigned-r.ensures

-- where all four numbers have been found
parts : {a r w s c x y : ℕ} → pos r ≡ near (pos (a % 100_000 * 17_453_293)) (pos 10_000_000) → pos w ≡ near (pos (r * r)) (pos 200_000_000)
    → s ≡ x → Entry (a / 100_000) x → c ≡ y → Entry (900 - a / 100_000) y → Parts a r w s c
unfolding arc sag
parts r w s x c y = record { r-is = r; w-is = w; s-is = s ∙ x.value; c-is = c ∙ y.value }

pub overflow_mul-square : goal.overflow_mul-square
overflow_mul-square c = record { fits = omega (arith, square_small c) }

pub near_unsigned-w-requires : goal.near_unsigned-w-requires
near_unsigned-w-requires c = (omega (arith, square_small c), omega arith, omega arith)

pub overflow_mul-gain : goal.overflow_mul-gain
overflow_mul-gain c =
    let p = parts c.near_unsigned-r.ensures c.near_unsigned-w.ensures c.from-s.ensures c.entry.ensures c.from-c.ensures c.entry-2.ensures in
    record { fits = omega (arith, cr-small c.requires.1 p) }

pub overflow_mul-loss : goal.overflow_mul-loss
overflow_mul-loss c =
    let p = parts c.near_unsigned-r.ensures c.near_unsigned-w.ensures c.from-s.ensures c.entry.ensures c.from-c.ensures c.entry-2.ensures in
    record { fits = omega (arith, sw-small c.requires.1 p) }

pub overflow_sub-gain : goal.overflow_sub-gain
overflow_sub-gain c =
    let p = parts c.near_unsigned-r.ensures c.near_unsigned-w.ensures c.from-s.ensures c.entry.ensures c.from-c.ensures c.entry-2.ensures in
    taken c.requires.1 p

pub near_unsigned-step-requires : goal.near_unsigned-step-requires
near_unsigned-step-requires c =
    let p = parts c.near_unsigned-r.ensures c.near_unsigned-w.ensures c.from-s.ensures c.entry.ensures c.from-c.ensures c.entry-2.ensures in
    (omega (arith, cr-small c.requires.1 p), omega arith, omega arith)

pub overflow_add-sum : goal.overflow_add-sum
overflow_add-sum c =
    let p = parts c.near_unsigned-r.ensures c.near_unsigned-w.ensures c.from-s.ensures c.entry.ensures c.from-c.ensures c.entry-2.ensures in
    record { fits = omega (arith, s-small c.requires.1 p, step_small c.requires.1 p c.near_unsigned-step.ensures) }

pub returns : goal.returns
returns c =
    let p = parts c.near_unsigned-r.ensures c.near_unsigned-w.ensures c.from-s.ensures c.entry.ensures c.from-c.ensures c.entry-2.ensures in
    to_z_pos w64 c.min.result (omega arith) ∙ ap pos c.min.ensures
    ∙ sym (first-is c.requires.1 p c.near_unsigned-step.ensures)
