-- The remainder that is never negative is the angle.
use Rattle.std.proofs.Common.{◌≡◌, ℤ, pos, negsuc, refl, nat_abs, ap, ◌∙◌}
use Rattle.std.specs.Int.{int_rem_euclid}
use mir.Syntax.{w64}
use mir.ValLaws.{to_z-of_z}
use Rattle.rounding.specs.laws.Code.{read_result}
use Rattle.sine.specs.Sine.{reduced}
use Rattle.sine.specs.laws.SineLaws.{reduced_below}
use Rattle.sine.proofs.reduced.Goals as goal

rest-is : (a : ℤ) → int_rem_euclid a (pos 360_000_000) ≡ pos (reduced a)
unfolding reduced
rest-is (pos n) = refl
rest-is (negsuc n) = refl

pub returns : goal.returns
returns c =
    let r = c.rem_euclid in
    let d = pos 360_000_000 in
    let a = ap (λ (z : ℤ). int_rem_euclid z d) (to_z-of_z w64 c.args.a c.ranges.a) in
    let e = ap nat_abs (read_result r.result r.type_inv ∙ r.ensures.value ∙ a ∙ rest-is c.args.a) in
    record { value = e; below = rw e (reduced_below c.args.a) }
