-- One product to the nearest, taken from l.
use Rattle.std.proofs.Common.{◌≡◌, ap, ◌∙◌, ◌≤◌, ℤ, nat_abs, ◌-ℤ◌, ◌*ℤ◌, arith}
use mathlib.Core.List.{[], ◌∷◌}
use Rattle.std.specs.Int.Signed.{le_z_yes}
use Rattle.rounding.specs.laws.Order.{nat_abs_product_le}
use Rattle.rounding.specs.laws.Code.{Code, arg, sub, mul, Within, whole, ends, ◌▹◌, fits, runs, within}
use Rattle.rounding.specs.Units.{one}
use Rattle.rounding.specs.Near.{near}
use Rattle.rounding.proofs.laws.NearLaws.{near-size}
use Rattle.shadow.proofs.radius_of.Goals as goal

abbrev less : Code
less = sub (arg 0) (arg 1)

module _ (c : goal.After-near_unit) where
  term-is : c.near_unit.result ≡ near (c.args.zeta *ℤ c.args.tanf) one
  term-is =
      let w : Within (whole c.args.zeta ∷ whole c.args.tanf ∷ []) (202000000 ∷ 500000 ∷ []) = c.requires.2 ▹ c.requires.1 ▹ ends in
      c.near_unit.ensures ∙ ap (λ (z : ℤ). near z one) (runs w (mul (arg 0) (arg 1)) tt)

  term-small : nat_abs c.near_unit.result ≤ 1010000
  term-small =
      let h = nat_abs_product_le c.args.zeta c.args.tanf 202000000 500000 c.requires.2 c.requires.1 in
      omega (arith, ap nat_abs term-is, near-size (c.args.zeta *ℤ c.args.tanf) one 1010000 (le_z_yes tt) (omega (arith, h)))

  after : Within (whole c.args.l ∷ whole c.near_unit.result ∷ []) (500000000 ∷ 1010000 ∷ [])
  after = c.requires.0 ▹ term-small ▹ ends

pub overflow_sub-result : goal.overflow_sub-result
overflow_sub-result c = fits (after c) less tt

pub returns : goal.returns
returns c =
    record {
      value = runs (after c) less tt ∙ ap (λ (z : ℤ). c.args.l -ℤ z) (term-is c);
      size = within (after c) less 600000000 tt;
    }
