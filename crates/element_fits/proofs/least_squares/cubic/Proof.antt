-- `element_fits::least_squares::cubic` meets its contract: four sums, each divided to the nearest, the lower two less
-- what the higher ones take.
use mathlib.Core.Path.{◌≡◌, ap, ap₂, ◌∙◌}
use mathlib.Core.List.{[], ◌∷◌}
use native.Mathlib.Omega.{arith}
use lib.Dec.{lit≤}
use lib.IntN.{ℤ, pos, nat_abs, ◌-ℤ◌, ◌*ℤ◌}
use lib.Signed.{le_z_yes}
use Rattle.rounding.specs.Near.{near}
use Rattle.rounding.specs.Value.{Value}
use Rattle.rounding.specs.laws.Code.{Code, arg, lit, sub, mul, Within, whole, ends, ◌▹◌, fits, runs, within, sized, read_back, read-size, read_result}
use Rattle.element_fits.specs.LeastSquares.{sum, first, second, third, cubic}
use Rattle.element_fits.specs.declared.least_squares.Hourly.{Hourly}
use Rattle.element_fits.proofs.least_squares.Bounds.{divided}
use Rattle.element_fits.proofs.least_squares.cubic.Statement.{statement}
use Rattle.element_fits.proofs.least_squares.cubic.Tie as tie

-- the values
abbrev given : tie.After-third-a3 → Hourly
given c = c.args.v

near-requires : tie.Need-near-c3-requires
near-requires c κs = (read-size c.third-a3.result 4000000000000000000 c.third-a3.ensures.size tt, lit≤ tt, le_z_yes tt)

-- what the calls of `near` gave
cubed : (c : tie.After-near-c3) → Value (near (third (given c.before)) (pos 36)) 16666666667 c.near-c3.result
cubed c =
    let t = c.third-a3 in
    divided (pos 36) 600000000000 16666666667 (le_z_yes tt) c.near-c3.ensures (read_back t.result t.ensures.size tt ∙ t.ensures.value)
    (omega (arith, t.ensures.size, ap nat_abs t.ensures.value)) (omega arith)

near-requires-2 : tie.Need-near-c2-requires
near-requires-2 c κs = let s = c.second-a2 in (read-size s.result 4000000000000000000 s.ensures.size tt, lit≤ tt, le_z_yes tt)

squared : (c : tie.After-near-c2) → Value (near (second (given c.before.before)) (pos 84)) 23809523810 c.near-c2.result
squared c =
    let s = c.second-a2 in
    divided (pos 84) 2000000000000 23809523810 (le_z_yes tt) c.near-c2.ensures (read_back s.result s.ensures.size tt ∙ s.ensures.value)
    (omega (arith, s.ensures.size, ap nat_abs s.ensures.value)) (omega arith)

-- the sum of products with the hours, less what c3 takes
bounds-1 : (c : tie.After-near-c2) → Within (whole c.first-a1.result ∷ whole c.near-c3.result ∷ []) (1200000000000 ∷ 16666666667 ∷ [])
bounds-1 c = c.first-a1.ensures.size ▹ (cubed c.before).size ▹ ends

abbrev product-1 : Code
product-1 = mul (lit (pos 196)) (arg 1)

abbrev less-1 : Code
less-1 = sub (arg 0) product-1

near-requires-3 : tie.Need-near-c1-requires
near-requires-3 c κs = (within (bounds-1 c) less-1 4000000000000000000 tt, lit≤ tt, le_z_yes tt)

once : (c : tie.After-near-c1)
    → let v = given c.before.before.before in Value (near (first v -ℤ pos 196 *ℤ near (third v) (pos 36)) (pos 28)) 159523809527 c.near-c1.result
once c =
    let b = bounds-1 c.before in
    let f = c.first-a1.ensures.value in
    let e = ap₂ (λ (x y : ℤ). x -ℤ pos 196 *ℤ y) f (cubed c.before.before).value in
    divided (pos 28) 4466666666732 159523809527 (le_z_yes tt) c.near-c1.ensures (runs b less-1 tt ∙ e) (omega (arith, sized b less-1, ap nat_abs e)) (omega arith)

-- the sum, less what c2 takes
bounds-0 : (c : tie.After-near-c1)
    → Within (whole c.sum-a0.result ∷ whole c.near-c2.result ∷ []) (700000000000 ∷ 23809523810 ∷ [])
bounds-0 c = c.sum-a0.ensures.size ▹ (squared c.before).size ▹ ends

abbrev product-0 : Code
product-0 = mul (lit (pos 28)) (arg 1)

abbrev less-0 : Code
less-0 = sub (arg 0) product-0

near-requires-4 : tie.Need-near-c0-requires
near-requires-4 c κs = (within (bounds-0 c) less-0 4000000000000000000 tt, lit≤ tt, le_z_yes tt)

constant : (c : tie.After-near-c0)
    → let v = given c.before.before.before.before in c.near-c0.result ≡ near (sum v -ℤ pos 28 *ℤ near (second v) (pos 84)) (pos 7)
constant c =
    let f = c.sum-a0.ensures.value in
    let e = ap₂ (λ (x y : ℤ). x -ℤ pos 28 *ℤ y) f (squared c.before.before).value in
    c.near-c0.ensures ∙ ap (λ (z : ℤ). near z (pos 7)) (runs (bounds-0 c.before) less-0 tt ∙ e)

returns : tie.Need-returns
unfolding cubic
returns c =
    rw (
      read_result c.near-c0.result c.near-c0.type_inv,
      read_result c.near-c1.result c.near-c1.type_inv,
      read_result c.near-c2.result c.near-c2.type_inv,
      read_result c.near-c3.result c.near-c3.type_inv,
      constant c,
      (once c.before).value,
      (squared c.before.before).value,
      (cubed c.before.before.before).value,
    )

pub cubic_spec : {M : Type 1} → statement M
cubic_spec =
    tie.close
    (tie.spec (λ c κs. c.requires) (λ c κs. c.requires) (λ c κs. c.requires)
    (λ c κs. c.requires) near-requires near-requires-2
    (λ c. fits (bounds-1 c) product-1 tt) (λ c. fits (bounds-1 c) less-1 tt) near-requires-3
    (λ c. fits (bounds-0 c) product-0 tt) (λ c. fits (bounds-0 c) less-0 tt) near-requires-4 returns)
