-- `element_fits::least_squares::quadratic` meets its contract: three sums, each divided to the nearest, the lowest
-- less what c2 takes.
use mathlib.Core.Path.{◌≡◌, ap, ap₂, ◌∙◌}
use mathlib.Core.List.{[], ◌∷◌}
use native.Mathlib.Omega.{arith}
use lib.Dec.{lit≤}
use lib.IntN.{ℤ, pos, nat_abs, ◌-ℤ◌, ◌*ℤ◌}
use lib.Signed.{le_z_yes}
use Rattle.rounding.specs.Near.{near}
use Rattle.rounding.specs.Value.{Value}
use Rattle.rounding.specs.laws.Code.{Code, arg, lit, sub, mul, Within, whole, ends, ◌▹◌, fits, runs, within, read_back, read-size, read_result}
use Rattle.element_fits.specs.LeastSquares.{sum, first, second, quadratic}
use Rattle.element_fits.specs.declared.least_squares.Hourly.{Hourly}
use Rattle.element_fits.proofs.least_squares.Bounds.{divided}
use Rattle.element_fits.proofs.least_squares.quadratic.Statement.{statement}
use Rattle.element_fits.proofs.least_squares.quadratic.Tie as tie

-- the values
abbrev given : tie.After-second-a2 → Hourly
given c = c.args.v

near-requires : tie.Need-near-c2-requires
near-requires c κs = (read-size c.second-a2.result 4000000000000000000 c.second-a2.ensures.size tt, lit≤ tt, le_z_yes tt)

-- what the calls of `near` gave
squared : (c : tie.After-near-c2) → Value (near (second (given c.before)) (pos 84)) 23809523810 c.near-c2.result
squared c =
    let s = c.second-a2 in
    divided (pos 84) 2000000000000 23809523810 (le_z_yes tt) c.near-c2.ensures (read_back s.result s.ensures.size tt ∙ s.ensures.value)
    (omega (arith, s.ensures.size, ap nat_abs s.ensures.value)) (omega arith)

near-requires-2 : tie.Need-near-c1-requires
near-requires-2 c κs = let f = c.first-a1 in (read-size f.result 4000000000000000000 f.ensures.size tt, lit≤ tt, le_z_yes tt)

once : (c : tie.After-near-c1) → c.near-c1.result ≡ near (first (given c.before.before)) (pos 28)
once c =
    let f = c.first-a1 in
    c.near-c1.ensures ∙ ap (λ (z : ℤ). near z (pos 28)) (read_back f.result f.ensures.size tt ∙ f.ensures.value)

-- the sum, less what c2 takes
bounds : (c : tie.After-near-c1)
    → Within (whole c.sum-a0.result ∷ whole c.near-c2.result ∷ []) (700000000000 ∷ 23809523810 ∷ [])
bounds c = c.sum-a0.ensures.size ▹ (squared c.before).size ▹ ends

abbrev product : Code
product = mul (lit (pos 28)) (arg 1)

abbrev less : Code
less = sub (arg 0) product

near-requires-3 : tie.Need-near-c0-requires
near-requires-3 c κs = (within (bounds c) less 4000000000000000000 tt, lit≤ tt, le_z_yes tt)

constant : (c : tie.After-near-c0)
    → let v = given c.before.before.before in c.near-c0.result ≡ near (sum v -ℤ pos 28 *ℤ near (second v) (pos 84)) (pos 7)
constant c =
    let f = c.sum-a0.ensures.value in
    let e = ap₂ (λ (x y : ℤ). x -ℤ pos 28 *ℤ y) f (squared c.before.before).value in
    c.near-c0.ensures ∙ ap (λ (z : ℤ). near z (pos 7)) (runs (bounds c.before) less tt ∙ e)

returns : tie.Need-returns
unfolding quadratic
returns c =
    rw (
      read_result c.near-c0.result c.near-c0.type_inv,
      read_result c.near-c1.result c.near-c1.type_inv,
      read_result c.near-c2.result c.near-c2.type_inv,
      constant c,
      once c.before,
      (squared c.before.before).value,
    )

pub quadratic_spec : {M : Type 1} → statement M
quadratic_spec = tie.close (tie.spec (λ c κs. c.requires) (λ c κs. c.requires) (λ c κs. c.requires) near-requires near-requires-2 (λ c. fits (bounds c) product tt) (λ c. fits (bounds c) less tt) near-requires-3 returns)
