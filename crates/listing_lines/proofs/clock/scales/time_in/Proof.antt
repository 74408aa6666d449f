-- `listing_lines::clock::scales::time_in` meets its contract: the instant's own time, in the scale.
use mathlib.Core.Path.{◌≡◌, ap, ap₂, ◌∙◌}
use Prim.Native.Nat.{◌≤◌}
use native.Mathlib.Omega.{arith}
use mir.Syntax.{w64}
use mir.Val.{to_z, of_z}
use mir.ValLaws.{to_z-of_z}
use lib.IntN.{ℤ, nat_abs}
use Rattle.rounding.specs.laws.Code.{read_result, count-is, count-size}
use Rattle.listing_lines.specs.Clock.{in_scale, offset_of, time_in}
use borrow.Author.Rules.{rules}
use Rattle.listing_lines.proofs.clock.scales.time_in.Statement.{statement}
use Rattle.listing_lines.proofs.clock.scales.time_in.Tie as tie

read : (c : tie.Start) → to_z w64 (of_z w64 c.args.deltat) ≡ c.args.deltat
read c = to_z-of_z w64 c.args.deltat c.ranges.deltat

few : (c : tie.Start) → offset_of c.args.i ≤ 99
few c = omega arith

in-scale-requires : tie.Need-in_scale-requires
in-scale-requires c κs =
    let s = c.before in
    let o = c.own-n in
    (omega (arith, s.requires, ap nat_abs (read s)), count-size (offset_of s.args.i) (few s) tt, omega (arith, o.ensures.size, ap nat_abs (read_result o.result o.type_inv)))

returns : tie.Need-returns
unfolding time_in
returns c =
    let s = c.before.before in
    let o = c.own-n in
    let t = in_scale s.args.i.scale s.args.shown in
    rw (read_result c.in_scale.result c.in_scale.type_inv)
    (record {
      value =
          c.in_scale.ensures.value
          ∙ ap (λ (d : ℤ). t d (to_z w64 (offset_of s.args.i)) (to_z w64 (of_z w64 o.result))) (read s)
          ∙ ap₂ (λ (a n : ℤ). t s.args.deltat a n) (count-is (offset_of s.args.i) (few s) tt) (read_result o.result o.type_inv ∙ o.ensures.value);
      size = c.in_scale.ensures.size;
    })

pub time_in_spec : {M : Type 1} → statement M
time_in_spec = tie.close (tie.spec (λ c κs. search rules) (λ c. search rules) in-scale-requires returns)
