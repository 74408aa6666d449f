-- `horizon::bearing` meets its contract: near of products of what it is handed, and their direction.
use mathlib.Core.Path.{◌≡◌, ap, ap₂, ◌∙◌}
use mathlib.Core.List.{[], ◌∷◌}
use Prim.Native.Nat.{◌≤◌}
use lib.IntN.{ℤ, nat_abs, ◌-ℤ◌, ◌*ℤ◌}
use Rattle.rounding.specs.laws.Code.{Code, arg, sub, mul, Within, whole, ends, ◌▹◌, fits, runs, within, sized, read_back, read-size}
use Rattle.rounding.specs.Units.{one}
use Rattle.rounding.specs.Near.{near}
use Rattle.sine_table.specs.Table.{S}
use Rattle.shadow_geometry.specs.Direction.{direction}
use Rattle.horizon.proofs.Nears.{unit, unit_size}
use Rattle.horizon.proofs.bearing.Statement.{statement}
use Rattle.horizon.proofs.bearing.Tie as tie

-- what is handed over
bounds : (c : tie.After-shared_slice_known-1) → let s = c.before in
    Within
    (whole s.args.a ∷ whole s.args.b ∷ whole s.args.c ∷ whole s.args.d ∷ whole s.args.e ∷ whole s.args.f ∷ whole s.args.g ∷ [])
    (100000000 ∷ 100000000 ∷ 100000000 ∷ 100000000 ∷ 100000000 ∷ 100000000 ∷ 100000000 ∷ [])
bounds c = let p = c.requires in p.1 ▹ p.2 ▹ p.3 ▹ p.4 ▹ p.5 ▹ p.6 ▹ p.7 ▹ ends

abbrev inner : Code
inner = mul (arg 4) (arg 5)

q-is : (c : tie.After-near_unit-q) → c.near_unit-q.result ≡ near (c.args.e *ℤ c.args.f) one
q-is c = unit c.near_unit-q.ensures (runs (bounds c.before) inner tt)

q-size : (c : tie.After-near_unit-q) → nat_abs c.near_unit-q.result ≤ 100000000
q-size c = unit_size (c.args.e *ℤ c.args.f) 100000000 (q-is c) (sized (bounds c.before) inner)

-- with q in front
after : (c : tie.After-near_unit-q) → let s = c.args in
    Within
    (whole c.near_unit-q.result ∷ whole s.a ∷ whole s.b ∷ whole s.c ∷ whole s.d ∷ whole s.e ∷ whole s.f ∷ whole s.g ∷ [])
    (100000000 ∷ 100000000 ∷ 100000000 ∷ 100000000 ∷ 100000000 ∷ 100000000 ∷ 100000000 ∷ 100000000 ∷ [])
after c = q-size c ▹ bounds c.before

abbrev eastward : Code
eastward = mul (arg 1) (arg 2)

abbrev northward : Code
northward = sub (mul (arg 3) (arg 4)) (mul (arg 0) (arg 7))

-- ---- what each call gave
module _ (c : tie.After-near_unit-north) where
  abbrev known : tie.After-near_unit-q
  known = c.before.before

  abbrev first : tie.Start
  first = known.before.before

  east-is : c.near_unit-east.result ≡ near (first.args.a *ℤ first.args.b) one
  east-is = unit c.near_unit-east.ensures (runs (after known) eastward tt)

  east-size : nat_abs c.near_unit-east.result ≤ 100000000
  east-size = unit_size _ 100000000 east-is (sized (after known) eastward)

  north-by : c.near_unit-north.result ≡ near (first.args.c *ℤ first.args.d -ℤ known.near_unit-q.result *ℤ first.args.g) one
  north-by = unit c.near_unit-north.ensures (runs (after known) northward tt)

  north-size : nat_abs c.near_unit-north.result ≤ 200000000
  north-size = unit_size _ 200000000 north-by (sized (after known) northward)

-- ---- the needs
near-unit-requires : tie.Need-near_unit-q-requires
near-unit-requires c κs = within (bounds c) inner 1000000000000000000 tt

near-unit-requires-2 : tie.Need-near_unit-east-requires
near-unit-requires-2 c κs = within (after c) eastward 1000000000000000000 tt

near-unit-requires-3 : tie.Need-near_unit-north-requires
near-unit-requires-3 c κs = within (after c.before) northward 1000000000000000000 tt

direction-requires : tie.Need-direction-requires
direction-requires c κs =
    ((first c).requires.0, read-size c.near_unit-east.result 1000000000 (east-size c) tt, read-size c.near_unit-north.result 1000000000 (north-size c) tt)

returns : tie.Need-returns
returns c =
    let n = c.before in
    let s = (first n).args in
    c.direction.ensures
    ∙ ap₂ (direction S) (read_back n.near_unit-east.result (east-size n) tt ∙ east-is n)
    (read_back n.near_unit-north.result (north-size n) tt ∙ north-by n ∙ ap (λ (k : ℤ). near (s.c *ℤ s.d -ℤ k *ℤ s.g) one) (q-is (known n)))

pub bearing_spec : {M : Type 1} → statement M
bearing_spec =
    tie.close
    (tie.spec (λ c. fits (bounds c) inner tt) near-unit-requires (λ c. fits (after c) eastward tt)
    near-unit-requires-2 (λ c. fits (after c.before) (mul (arg 3) (arg 4)) tt)
    (λ c. fits (after c.before) (mul (arg 0) (arg 7)) tt) (λ c. fits (after c.before) northward tt)
    near-unit-requires-3 direction-requires returns)
