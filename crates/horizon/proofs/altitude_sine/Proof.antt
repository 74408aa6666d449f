-- `horizon::altitude_sine` meets its contract: two nears of products of what it is handed.
use mathlib.Core.Path.{◌≡◌, subst}
use mathlib.Core.List.{[], ◌∷◌}
use Prim.Native.Nat.{◌≤◌}
use lib.IntN.{ℤ, nat_abs, ◌+ℤ◌, ◌*ℤ◌}
use mir.Syntax.{w64}
use mir.Val.{to_z, of_z}
use Rattle.rounding.specs.laws.Code.{Code, arg, add, mul, Within, whole, ends, ◌▹◌, fits, runs, within, sized}
use Rattle.rounding.specs.Units.{one}
use Rattle.rounding.specs.Near.{near}
use Rattle.rounding.specs.Value.{Value}
use Rattle.horizon.specs.Horizon.{altitude_sine}
use Rattle.horizon.proofs.Nears.{unit, unit_size, given}
use Rattle.horizon.proofs.altitude_sine.Statement.{statement}
use Rattle.horizon.proofs.altitude_sine.Tie as tie

abbrev start : tie.After-struct_told-3-1 → tie.Start
start c = c.before.before.before

-- what is handed over: sine and cosine of the latitude, cos H, sin d, cos d
bounds : (c : tie.After-struct_told-3-1)
    → Within
    (whole (start c).args.sine
    ∷ whole (start c).args.cosine
    ∷ whole (start c).args.o.hcosine
    ∷ whole (start c).args.o.dsine
    ∷ whole (start c).args.o.dcosine
    ∷ [])
    (100000000 ∷ 100000000 ∷ 100000000 ∷ 100000000 ∷ 100000000 ∷ [])
bounds c =
    let p = (start c).requires in
    p.0 ▹ p.1 ▹ p.2.hcosine ▹ p.2.dsine ▹ p.2.dcosine ▹ ends

q-is : (c : tie.After-near_unit-q) → c.near_unit-q.result ≡ near ((start c.before).args.cosine *ℤ (start c.before).args.o.hcosine) one
q-is c = unit c.near_unit-q.ensures (runs (bounds c.before) (mul (arg 1) (arg 2)) tt)

q-size : (c : tie.After-near_unit-q) → nat_abs c.near_unit-q.result ≤ 100000000
q-size c =
    unit_size ((start c.before).args.cosine *ℤ (start c.before).args.o.hcosine) 100000000 (q-is c) (sized (bounds c.before) (mul (arg 1) (arg 2)))

-- with q in front
after : (c : tie.After-near_unit-q)
    → Within
    (whole c.near_unit-q.result
    ∷ whole (start c.before).args.sine
    ∷ whole (start c.before).args.cosine
    ∷ whole (start c.before).args.o.hcosine
    ∷ whole (start c.before).args.o.dsine
    ∷ whole (start c.before).args.o.dcosine
    ∷ [])
    (100000000 ∷ 100000000 ∷ 100000000 ∷ 100000000 ∷ 100000000 ∷ 100000000 ∷ [])
after c = q-size c ▹ bounds c.before

abbrev height : Code
height = add (mul (arg 1) (arg 4)) (mul (arg 0) (arg 5))

near-unit-requires : tie.Need-near_unit-q-requires
near-unit-requires c κs = within (bounds c) (mul (arg 1) (arg 2)) 1000000000000000000 tt

near-unit-requires-2 : tie.Need-near_unit-requires
near-unit-requires-2 c κs = within (after c) height 1000000000000000000 tt

returns : tie.Need-returns
unfolding altitude_sine
returns c =
    let a = (start c.before.before).args in
    let w = after c.before in
    let q = c.near_unit-q.result in
    let o = a.o in
    let z = unit c.near_unit.ensures (runs w height tt) in
    subst (λ (k : ℤ). Value (near (a.sine *ℤ o.dsine +ℤ k *ℤ o.dcosine) one) 200000000 (to_z w64 (of_z w64 c.near_unit.result))) (q-is c.before)
    (given (a.sine *ℤ o.dsine +ℤ q *ℤ o.dcosine) 200000000 z (unit_size (a.sine *ℤ o.dsine +ℤ q *ℤ o.dcosine) 200000000 z (sized w height)) tt)

pub altitude_sine_spec : {M : Type 1} → statement M
altitude_sine_spec =
    tie.close
    (tie.spec (λ c. fits (bounds c) (mul (arg 1) (arg 2)) tt) near-unit-requires
    (λ c. fits (after c) (mul (arg 1) (arg 4)) tt) (λ c. fits (after c) (mul (arg 0) (arg 5)) tt)
    (λ c. fits (after c) height tt) near-unit-requires-2 returns)
